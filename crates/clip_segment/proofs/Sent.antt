-- Threads may hand over and share the indexes of segments.
use denote.Param.Send.{IsSend, IsSync, view_send, view_sync, sendable}
use denote.Param.SendFields.{declared_send, declared_sync}
use Rattle.std.proofs.alloc.Global.TheSendSync as global_sent
use Rattle.std.below.std_heap.proofs.GlobalAllocator.TheSendSync as allocator_sent
use Rattle.std.proofs.vec.Vec.TheSendSync as vec_sent
use Rattle.clip_pieces.proofs.marks.Marks.TheSendSync as marks_sent
use Rattle.clip_pieces.proofs.packed.PackedLists.TheSendSync as lists_sent
use Rattle.clip_terms.proofs.terms.Terms.TheSendSync as terms_sent
use Rattle.clip_words.proofs.texts.Texts.TheSendSync as texts_sent
use Rattle.clip_plan.proofs.Sent.{plans_send, plans_sync}
use Rattle.clip_segment.specs.contracts.query_index.QueryIndex as index
use Rattle.clip_segment.specs.contracts.query_index.QueryIndex.TheInside as index_inside
use Rattle.clip_segment.specs.contracts.labelled_index.LabelledIndex as labelled_index
use Rattle.clip_segment.specs.contracts.labels.Labels as labels

ruleset global = (sendable, global_sent.the_send, global_sent.the_sync, allocator_sent.the_frees)

index_send : IsSend index.the_row
index_send = view_send index_inside.the_row _ _ _ _
    (declared_send index_inside.the_type (
      search (global, terms_sent.the_send),
      (
        search (global, lists_sent.the_send),
        (search (global, lists_sent.the_send), (search (global, marks_sent.the_send), (plans_send, tt))),
      ),
    ))

index_sync : IsSync index.the_row
index_sync = view_sync index_inside.the_row _ _ _ _
    (declared_sync index_inside.the_type (
      search (global, terms_sent.the_sync),
      (
        search (global, lists_sent.the_sync),
        (search (global, lists_sent.the_sync), (search (global, marks_sent.the_sync), (plans_sync, tt))),
      ),
    ))

labels_send : IsSend labels.the_row
labels_send = declared_send labels.the_type
    (search (global, texts_sent.the_send), (search (global, vec_sent.the_send), tt))

labels_sync : IsSync labels.the_row
labels_sync = declared_sync labels.the_type
    (search (global, texts_sent.the_sync), (search (global, vec_sent.the_sync), tt))

pub labelled_index_send : IsSend labelled_index.the_row
labelled_index_send = declared_send labelled_index.the_type (labels_send, (index_send, tt))

pub labelled_index_sync : IsSync labelled_index.the_row
labelled_index_sync = declared_sync labelled_index.the_type (labels_sync, (index_sync, tt))
