-- The rules by which remarks are made: how much each matters, its name, and what it says.
use Rattle.std.specs.Prelude.{ℕ, List, [], ◌∷◌, codes}
use Rattle.clip_remarks.specs.declared.rule.Level.{Level}
use Rattle.clip_remarks.specs.declared.rule.Level.TheVariants.{Hint, Notice, Warning}
use Rattle.clip_remarks.specs.declared.rule.Rule.{Rule}
use Rattle.clip_remarks.specs.declared.rule.Rule.TheVariants as rule

abbrev pub level_of : Rule → Level
level_of rule.OnlyExcludes = Warning
level_of rule.BareBlank = Warning
level_of rule.BlankIsOr = Hint
level_of rule.FieldOfOneClause = Warning
level_of rule.AndBesideOr = Warning
level_of rule.OrNot = Warning
level_of rule.SignBehindWord = Warning
level_of rule.LooseSign = Notice
level_of rule.LowerCaseOperator = Warning
level_of rule.ForeignOperator = Warning
level_of rule.WordBeforeParenthesis = Warning
level_of rule.FieldCase = Warning
level_of rule.OtherField = Hint
level_of rule.CommaList = Notice
level_of rule.OtherQuote = Warning
level_of rule.DroppedSign = Warning
level_of rule.SignMakesPhrase = Notice
level_of rule.SignInPrefix = Warning
level_of rule.WildcardInQuotes = Warning
level_of rule.OperatorInQuotes = Notice
level_of rule.SignInQuotes = Notice
level_of rule.Capitals = Notice
level_of rule.Apostrophe = Notice
level_of rule.RangeOfDigits = Notice
level_of rule.TextFieldOnly = Hint
level_of rule.ExactWords = Hint

abbrev pub name_of : Rule → List ℕ
name_of rule.OnlyExcludes = codes "only_excludes"
name_of rule.BareBlank = codes "bare_blank"
name_of rule.BlankIsOr = codes "blank_is_or"
name_of rule.FieldOfOneClause = codes "field_of_one_clause"
name_of rule.AndBesideOr = codes "and_beside_or"
name_of rule.OrNot = codes "or_not"
name_of rule.SignBehindWord = codes "sign_behind_word"
name_of rule.LooseSign = codes "loose_sign"
name_of rule.LowerCaseOperator = codes "lower_case_operator"
name_of rule.ForeignOperator = codes "foreign_operator"
name_of rule.WordBeforeParenthesis = codes "word_before_parenthesis"
name_of rule.FieldCase = codes "field_case"
name_of rule.OtherField = codes "other_field"
name_of rule.CommaList = codes "comma_list"
name_of rule.OtherQuote = codes "other_quote"
name_of rule.DroppedSign = codes "dropped_sign"
name_of rule.SignMakesPhrase = codes "sign_makes_phrase"
name_of rule.SignInPrefix = codes "sign_in_prefix"
name_of rule.WildcardInQuotes = codes "wildcard_in_quotes"
name_of rule.OperatorInQuotes = codes "operator_in_quotes"
name_of rule.SignInQuotes = codes "sign_in_quotes"
name_of rule.Capitals = codes "capitals"
name_of rule.Apostrophe = codes "apostrophe"
name_of rule.RangeOfDigits = codes "range_of_digits"
name_of rule.TextFieldOnly = codes "text_field_only"
name_of rule.ExactWords = codes "exact_words"

-- what a remark by the rule says to people
abbrev pub sentence_of : Rule → List ℕ
sentence_of rule.OnlyExcludes = codes "Clauses that only exclude find nothing: put *:* before them."
sentence_of rule.BareBlank = codes "A blank is read as OR: write AND between the two, or quotes around them."
sentence_of rule.BlankIsOr = codes "A blank is read as OR, so one of the two is enough."
sentence_of rule.FieldOfOneClause =
    codes "A field counts for one clause only: put parentheses around all that it is for."
sentence_of rule.AndBesideOr = codes "AND binds no closer than OR: put parentheses around what belongs together."
sentence_of rule.OrNot = codes "What is excluded is excluded from the whole group, also beside OR."
sentence_of rule.SignBehindWord = codes "The sign is no part of the word: it counts for the clause that comes next."
sentence_of rule.LooseSign = codes "The sign counts for the clause that comes next: it is no dash."
sentence_of rule.LowerCaseOperator = codes "This is a word that is looked for: operators are written in capitals."
sentence_of rule.ForeignOperator = codes "This is a word that is looked for: there is no such operator here."
sentence_of rule.WordBeforeParenthesis =
    codes "The word before the parenthesis is a clause of its own, and OR stands between."
sentence_of rule.FieldCase = codes "Case counts in the names of fields: they are title and text."
sentence_of rule.OtherField = codes "This finds only articles that are sent with a field of this name."
sentence_of rule.CommaList = codes "The comma is dropped, and OR stands in its place after a blank."
sentence_of rule.OtherQuote = codes "Only straight double quotes make a phrase: others are dropped."
sentence_of rule.DroppedSign = codes "A sign that is no part of a word is dropped: it is not looked for."
sentence_of rule.SignMakesPhrase =
    codes "A word that a sign divides is read as the phrase of its parts, without the sign."
sentence_of rule.SignInPrefix = codes "A prefix is compared with one word, and no word begins with this."
sentence_of rule.WildcardInQuotes = codes "A star between quotes is dropped: it is no wild card there."
sentence_of rule.OperatorInQuotes = codes "Between quotes an operator is a word like others."
sentence_of rule.SignInQuotes = codes "The sign between the quotes is dropped: it is not looked for."
sentence_of rule.Capitals = codes "Case does not count: the word is also found in small letters."
sentence_of rule.Apostrophe = codes "An apostrophe is part of its word, and a straight one is not a curly one."
sentence_of rule.RangeOfDigits = codes "A range compares letter by letter, so that 10 comes before 9."
sentence_of rule.TextFieldOnly = codes "Only the field text is searched, and not the title."
sentence_of rule.ExactWords =
    codes "Words are found as they are spelled, in any case: no other forms, accents or compounds."

-- all rules, in the order in which remarks of one place stand
abbrev pub rules : List Rule
rules =
    rule.OnlyExcludes ∷ rule.BareBlank ∷ rule.BlankIsOr ∷ rule.FieldOfOneClause ∷ rule.AndBesideOr ∷ rule.OrNot
    ∷ rule.SignBehindWord ∷ rule.LooseSign ∷ rule.LowerCaseOperator ∷ rule.ForeignOperator ∷ rule.WordBeforeParenthesis
    ∷ rule.FieldCase ∷ rule.OtherField ∷ rule.CommaList ∷ rule.OtherQuote ∷ rule.DroppedSign ∷ rule.SignMakesPhrase
    ∷ rule.SignInPrefix ∷ rule.WildcardInQuotes ∷ rule.OperatorInQuotes ∷ rule.SignInQuotes ∷ rule.Capitals
    ∷ rule.Apostrophe ∷ rule.RangeOfDigits ∷ rule.TextFieldOnly ∷ rule.ExactWords ∷ []
