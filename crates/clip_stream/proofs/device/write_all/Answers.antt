use Rattle.std.proofs.Common.{rules}
use Rattle.std.proofs.lemmas.List.{take_rest}
use Rattle.clip_stream.proofs.Bytes.{appends_more}
use Rattle.clip_stream.proofs.device.write_all.Goals as goal

pub loop-at-preserved : goal.loop-at-preserved
loop-at-preserved g c = record {
  within = search rules;
  failed = search rules;
  taken = let h = c.in_ok-n.ensures.bytes in
      appends_more _ _ _ c.args.bytes.now c.loop-at.at c.in_ok-n.n c.loop-at.invariant.taken (rw take_rest at h);
}
