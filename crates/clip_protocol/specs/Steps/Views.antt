-- What contracts see of requests, lines and replies.
use Rattle.std.specs.Prelude.{ℕ, List, map, String, string_bytes, option_map}
use Rattle.std.specs.declared.alloc.Global.{Global}
use Rattle.clip_model.specs.Alerts.{Alert}
use Rattle.clip_standing.specs.declared.command.Applied.{Applied}
use Rattle.clip_standing.specs.declared.command.Applied.TheVariants as applied
use Rattle.clip_standing.specs.Alerts.{AlertsValue, alerts_value}
use Rattle.clip_protocol.specs.Request as request
use Rattle.clip_protocol.specs.Reply as reply
use Rattle.clip_protocol.specs.Steps.Outline as outline
use Rattle.clip_protocol.specs.declared.line.Line.{Line}
use Rattle.clip_protocol.specs.declared.line.Line.TheVariants as line
use Rattle.clip_protocol.specs.declared.reply.Reply.{Reply}
use Rattle.clip_protocol.specs.declared.reply.Reply.TheVariants as answered
use Rattle.clip_protocol.specs.declared.request.Draft.{Draft}
use Rattle.clip_protocol.specs.declared.request.Listing.{Listing}
use Rattle.clip_protocol.specs.declared.request.Request.{Request}
use Rattle.clip_protocol.specs.declared.request.Request.TheVariants as asked

-- names and texts as their bytes
abbrev pub fields_view : List (String Global × String Global) → List (List ℕ × List ℕ)
fields_view = map (λ f. (string_bytes f.0, string_bytes f.1))

abbrev pub listing_view : Listing → request.Listing
listing_view l = record {
  id = string_bytes l.id;
  query = string_bytes l.query;
  listener = option_map string_bytes l.listener;
}

abbrev pub draft_view : Draft → request.Draft
draft_view d = record { id = string_bytes d.id; fields = fields_view d.fields.items }

abbrev pub request_view : Request → request.Request
request_view (asked.Register listings) = request.register (map listing_view listings.items)
request_view (asked.Delete ids) = request.delete (map string_bytes ids.items)
request_view asked.Clear = request.clear
request_view asked.Purge = request.purge
request_view asked.Count = request.count
request_view (asked.Show id) = request.show (string_bytes id)
request_view (asked.Match drafts) = request.match (map draft_view drafts.items)

abbrev pub line_view : Line → outline.Outline
line_view line.Blank = outline.blank
line_view (line.Refused refusal) = outline.refused refusal
line_view (line.Register listings) = outline.registers (map listing_view listings.items)
line_view (line.Delete ids) = outline.deletes (map string_bytes ids.items)
line_view line.Clear = outline.clears
line_view line.Purge = outline.purges
line_view line.Count = outline.counts
line_view (line.Show id) = outline.shows (string_bytes id)
line_view (line.Match drafts) = outline.matches drafts.items

-- ---- replies

-- an article's id, and its alerts
abbrev pub alerts_by_id : AlertsValue → List ℕ × List Alert
alerts_by_id found = (found.article, found.alerts)

abbrev pub reply_view : Reply → reply.Reply
reply_view answered.Nothing = reply.nothing
reply_view (answered.Refused refusal) = reply.refused refusal
reply_view (answered.RefusedAt refusal place) = reply.refused_at refusal place
reply_view (answered.Registered count) = reply.registered count
reply_view (answered.Deleted count) = reply.deleted count
reply_view (answered.Cleared count) = reply.cleared count
reply_view answered.Purged = reply.purged
reply_view (answered.Counted count) = reply.counted count
reply_view (answered.Shown text) = reply.shown (option_map string_bytes text)
reply_view (answered.Stepped word) = reply.stepped word.now
reply_view (answered.Finished found) = reply.finished (map alerts_by_id (map alerts_value found.items))

-- the reply to a command that was accepted
abbrev pub applied_view : Applied → reply.Reply
applied_view (applied.Registered count) = reply.registered count
applied_view (applied.Deleted count) = reply.deleted count
applied_view (applied.Cleared count) = reply.cleared count
