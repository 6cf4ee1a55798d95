use Rattle.clip_stream.proofs.Feeds.{is_feed_of}
use Rattle.clip_stream.proofs.lines.feed_of.Goals as goal

pub returns : goal.returns
returns c = is_feed_of c.args.bytes.now c.memchr.result c.memchr.ensures
