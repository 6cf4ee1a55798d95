-- A text that is put into a flow piece by piece.
use Rattle.std.proofs.Common.{◌≡◌, ◌≢◌, ℕ, List, [], ◌++◌, Option, refl, sym, ap, subst, ◌∙◌, append_assoc, append-nil}
use Rattle.std.proofs.Common.{Result, Ok, Err}
use Rattle.std.specs.Prelude.{IsErrAnd}
use Rattle.std.specs.declared.alloc.Global.{Global}
use Rattle.std.specs.declared.vec.Vec.{Vec}
use Rattle.clip_stream.specs.Device.{AppendsFront, HandsOver}
use Rattle.clip_stream.specs.declared.fault.RunFault.{RunFault}
use Rattle.clip_stream.specs.declared.fault.RunFault.TheVariants.{NoMemory, Read, Write}
use Rattle.clip_stream.proofs.Flows.{appends_none, appends_on, front_behind, front_longer, front_on, front_put}
use Rattle.clip_stream.proofs.Flows.{handed_more}
use Rattle.clip_protocol.specs.Steps.Putting.{Stand, Puts, PutsFront, PutsText, with_text}

-- ---- what was put

-- this was written behind the text
pub puts_written : (s : Stand) (old new bytes : List ℕ) → new ≡ old ++ bytes
    → Puts (with_text s old) (with_text s new) bytes
puts_written s old new bytes e = record {
  handed = record {
    moved = [];
    parts = append_assoc s.waiting old bytes ∙ ap (λ t. s.waiting ++ t) (sym e);
    taken =
        appends_none s.taken;
  };
  well = refl;
}

pub puts_more : (a b c : Stand) (first more : List ℕ) → Puts a b first → Puts b c more → Puts a c (first ++ more)
puts_more a b c first more p q =
    record {
      handed = handed_more a.taken b.taken c.taken a.waiting b.waiting c.waiting first more p.handed q.handed;
      well = q.well ∙ p.well;
    }

-- what was put went on its way
pub puts_on : (a b c : Stand) (bytes : List ℕ) → Puts a b bytes → Puts b c [] → Puts a c bytes
puts_on a b c bytes p q = subst (Puts a c) (append-nil bytes) (puts_more a b c bytes [] p q)

-- a text was written behind what was put
pub puts_one : (a s : Stand) (old new first bytes : List ℕ) → Puts a (with_text s old) first → new ≡ old ++ bytes
    → Puts a (with_text s new) (first ++ bytes)
puts_one a s old new first bytes p e =
    puts_more a (with_text s old) (with_text s new) first bytes p (puts_written s old new bytes e)

-- two texts were
pub puts_two : (a s : Stand) (old mid new first one other : List ℕ) → Puts a (with_text s old) first → mid ≡ old ++ one
    → new ≡ mid ++ other → Puts a (with_text s new) (first ++ (one ++ other))
puts_two a s old mid new first one other p e f =
    puts_one a s old new first (one ++ other) p (f ∙ ap (λ t. t ++ other) e ∙ append_assoc old one other)

-- what waits goes on its way
pub handed_on : (old mid new : Option (List ℕ)) (gathered held left : List ℕ) → HandsOver old gathered mid held
    → HandsOver mid held new left → HandsOver old gathered new left
handed_on old mid new gathered held left p q = record {
  moved = p.moved ++ q.moved;
  parts = p.parts ∙ ap (λ t. p.moved ++ t) q.parts ∙ sym (append_assoc p.moved q.moved left);
  taken = appends_on old mid new p.moved q.moved p.taken q.taken;
}

pub front_of_held : (old mid new : Option (List ℕ)) (gathered held : List ℕ) → HandsOver old gathered mid held
    → AppendsFront mid new held → AppendsFront old new gathered
front_of_held old mid new gathered held p f =
    subst (AppendsFront old new) (sym p.parts) (front_on old mid new p.moved held p.taken f)

-- ---- where it was broken off

not_read : NoMemory ≢ Read
not_read e = cc

not_write : NoMemory ≢ Write
not_write e = cc

-- memory ran out behind what was put, with some text that was written
pub refused : (r : Result (Vec ℕ Global) RunFault) (a s : Stand) (text first rest whole : List ℕ)
    → IsErrAnd r (λ e. e ≡ NoMemory) → whole ≡ first ++ rest → Puts a (with_text s text) first → PutsText r a s whole
refused (Ok left) a s text first rest whole is e p = absurd is
refused (Err fault) a s text first rest whole is e p = record {
  kind = λ r. not_read (sym is ∙ r);
  failed = λ w. absurd (not_write (sym is ∙ w));
  front = subst (λ t. AppendsFront a.taken s.taken (a.waiting ++ t)) (sym e)
      (front_put a.taken s.taken a.waiting (s.waiting ++ text) first rest p.handed);
}

-- a fault behind what was put
pub broken : (r : Result (Vec ℕ Global) RunFault) (fault : RunFault) (a b s : Stand) (first more rest whole : List ℕ)
    → IsErrAnd r (λ e. e ≡ fault) → whole ≡ (first ++ more) ++ rest → Puts a b first → PutsFront fault b s more
    → PutsText r a s whole
broken (Ok left) fault a b s first more rest whole is e p q = absurd is
broken (Err met) fault a b s first more rest whole is e p q = record {
  kind = λ r. q.kind (sym is ∙ r);
  failed = λ w. q.failed (sym is ∙ w);
  front =
      subst (λ t. AppendsFront a.taken s.taken (a.waiting ++ t)) (sym e)
      (subst (AppendsFront a.taken s.taken) (append_assoc a.waiting (first ++ more) rest)
      (front_longer a.taken s.taken (a.waiting ++ (first ++ more)) rest
      (front_behind a.taken b.taken s.taken a.waiting b.waiting first more p.handed q.front)));
}

-- the same, where nothing more was to be put
pub broken_on : (r : Result (Vec ℕ Global) RunFault) (fault : RunFault) (a b s : Stand) (first rest whole : List ℕ)
    → IsErrAnd r (λ e. e ≡ fault) → whole ≡ first ++ rest → Puts a b first → PutsFront fault b s []
    → PutsText r a s whole
broken_on r fault a b s first rest whole is e p q =
    broken r fault a b s first [] rest whole is (e ∙ ap (λ t. t ++ rest) (sym (append-nil first))) p q
