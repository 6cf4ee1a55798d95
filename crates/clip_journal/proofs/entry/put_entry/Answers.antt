use Rattle.std.proofs.Common.{length, ap, ◌∙◌, ◌++◌, List, ℕ, refl}
use Rattle.clip_journal.proofs.Heads.{put_parts}
use Rattle.clip_journal.proofs.entry.put_entry.Goals as goal

pub returns-clause-bytes : goal.returns-clause-bytes
returns-clause-bytes c =
    put_parts c.args.out.now.items c.args.link.now c.args.place (length c.args.said.now) _ c.args.said.now _ _ _ _ _ _
    (c.in_ok-extend_from_slice.ensures.items
    ∙ ap (λ (x : List ℕ). c.args.out.now.items ++ x) c.to_be_bytes.ensures)
    (c.in_ok-extend_from_slice-2.ensures.items
    ∙ ap (λ (x : List ℕ). c.extend_from_slice.new.self.items ++ x) c.to_be_bytes-2.ensures)
    c.in_ok-extend_from_slice-3.ensures.items c.in_ok-extend_from_slice-4.ensures.items
    c.in_ok-extend_from_slice-5.ensures.items refl c.check_of-check_sum.ensures
    (c.link_of-next.ensures c.args.link.now c.args.place c.check_of-check_sum.ensures)
