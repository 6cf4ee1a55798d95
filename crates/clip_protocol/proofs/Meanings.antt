-- What a line means, by its outline.
use Rattle.std.proofs.Common.{ℕ, List, subst}
use Rattle.clip_model.specs.History.{History}
use Rattle.clip_protocol.specs.LineMeaning as line
use Rattle.clip_protocol.specs.LineMeaning.{Meaning, Line, MeansRequest, MeansLine, Means}
use Rattle.clip_protocol.specs.Request as request
use Rattle.clip_protocol.specs.Request.{Request}
use Rattle.clip_protocol.specs.Steps.Outline.{requests, outline, outline_said, MeansOutline}
use Rattle.clip_protocol.proofs.Saying.{run, said_by, says_found, outline_is_said, outline_says}

-- ---- a request, and a line, mean what their outlines do

same_request : (names : List (List ℕ)) (h : History) (r : Request) (m : Meaning)
    → (MeansOutline names h (requests r) m → MeansRequest names h r m)
    × (MeansRequest names h r m → MeansOutline names h (requests r) m)
same_request names h (request.register listings) m = (λ means. means, λ means. means)
same_request names h (request.delete ids) m = (λ means. means, λ means. means)
same_request names h request.clear m = (λ means. means, λ means. means)
same_request names h request.purge m = (λ means. means, λ means. means)
same_request names h request.count m = (λ means. means, λ means. means)
same_request names h (request.show id) m = (λ means. means, λ means. means)
same_request names h (request.match drafts) m = (λ means. means, λ means. means)

same_line : (names : List (List ℕ)) (h : History) (l : Line Request) (m : Meaning)
    → (MeansOutline names h (outline_said l) m → MeansLine names h l m)
    × (MeansLine names h l m → MeansOutline names h (outline_said l) m)
same_line names h line.blank m = (λ means. means, λ means. means)
same_line names h (line.refused r) m = (λ means. means, λ means. means)
same_line names h (line.asks r) m = same_request names h r m

pub means_from : (names : List (List ℕ)) (h : History) (bytes : List ℕ) (m : Meaning)
    → MeansOutline names h (outline bytes) m → Means names h bytes m
means_from names h bytes m means = record {
  says = said_by run bytes;
  is_said = says_found run bytes;
  means =
      (same_line names h (said_by run bytes) m).0 (subst (λ o. MeansOutline names h o m) (outline_is_said bytes) means);
}

pub means_to : (names : List (List ℕ)) (h : History) (bytes : List ℕ) (m : Meaning) → Means names h bytes m
    → MeansOutline names h (outline bytes) m
means_to names h bytes m means =
    rw (outline_says bytes means.says means.is_said) ((same_line names h means.says m).1 means.means)
