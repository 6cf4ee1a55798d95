-- What may be wrong at a place of a line: which refusal it is, and its sentence.
use Rattle.std.specs.Prelude.{ℕ, List, codes}
use Rattle.clip_cause.specs.declared.wrong.Wrong.{Wrong}
use Rattle.clip_cause.specs.declared.wrong.Wrong.TheVariants as wrong
use Rattle.clip_protocol.specs.declared.refusal.Refusal.{Refusal}
use Rattle.clip_protocol.specs.declared.refusal.Refusal.TheVariants as refusal

abbrev pub refusal_of : Wrong → Refusal
refusal_of wrong.NotUtf8 = refusal.Json
refusal_of wrong.NotJson = refusal.Json
refusal_of wrong.NotAnObject = refusal.Shape
refusal_of wrong.NotAList = refusal.Shape
refusal_of wrong.NotAString = refusal.Shape
refusal_of wrong.Missing = refusal.Shape
refusal_of wrong.Unknown = refusal.Shape
refusal_of wrong.NoOperation = refusal.Shape
refusal_of wrong.TooManyQueries = refusal.Limit
refusal_of wrong.TooManyIds = refusal.Limit
refusal_of wrong.TooManyArticles = refusal.Limit
refusal_of wrong.TooManyFields = refusal.Limit
refusal_of wrong.EmptyId = refusal.Limit
refusal_of wrong.LongId = refusal.Limit
refusal_of wrong.EmptyName = refusal.Limit
refusal_of wrong.LongName = refusal.Limit
refusal_of wrong.ByteOfName = refusal.Limit
refusal_of wrong.DigitFirst = refusal.Limit

abbrev pub sentence_of : Wrong → List ℕ
sentence_of wrong.NotUtf8 = codes "the bytes are not UTF-8"
sentence_of wrong.NotJson = codes "no JSON value goes on like this"
sentence_of wrong.NotAnObject = codes "this is no object"
sentence_of wrong.NotAList = codes "this is no list"
sentence_of wrong.NotAString = codes "this is no string"
sentence_of wrong.Missing = codes "this member is missing"
sentence_of wrong.Unknown = codes "no such member may stand here"
sentence_of wrong.NoOperation = codes "there is no such operation"
sentence_of wrong.TooManyQueries = codes "a line lists at most 1,024 queries"
sentence_of wrong.TooManyIds = codes "a line lists at most 1,024 ids"
sentence_of wrong.TooManyArticles = codes "a line lists at most 256 articles"
sentence_of wrong.TooManyFields = codes "an article has at most 16 fields"
sentence_of wrong.EmptyId = codes "an id has at least 1 byte"
sentence_of wrong.LongId = codes "an id has at most 256 bytes"
sentence_of wrong.EmptyName = codes "a field's name has at least 1 byte"
sentence_of wrong.LongName = codes "a field's name has at most 64 bytes"
sentence_of wrong.ByteOfName = codes "a field's name has only ASCII letters, digits and `_`"
sentence_of wrong.DigitFirst = codes "a field's name begins with no digit"
