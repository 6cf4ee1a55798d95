-- Threads may hand over and share the registry over the index by which articles are matched.
use denote.RattleType.{RattleType}
use denote.Param.Send.{IsSend, IsSync}
use Rattle.clip_segment.specs.contracts.labelled_index.LabelledIndex as labelled_index
use Rattle.clip_segment.specs.contracts.labelled_index.LabelledIndexIndex.TheImpl as index_impl
use Rattle.clip_segment.proofs.Sent.{labelled_index_send, labelled_index_sync}
use Rattle.clip_registry.specs.contracts.registrar.Registrar as registrar
use Rattle.clip_registry.specs.contracts.view.View as view
use Rattle.clip_registry.proofs.Sent as registry

abbrev pub registrar_row : RattleType
registrar_row = registrar.the_row labelled_index.the_row index_impl.ghosts

pub registrar_send : IsSend registrar_row
registrar_send =
    registry.registrar_send labelled_index.the_row index_impl.ghosts labelled_index_send labelled_index_sync

pub registrar_sync : IsSync registrar_row
registrar_sync =
    registry.registrar_sync labelled_index.the_row index_impl.ghosts labelled_index_send labelled_index_sync

abbrev pub view_row : RattleType
view_row = view.the_row labelled_index.the_row index_impl.ghosts

pub view_send : IsSend view_row
view_send = registry.view_is_send labelled_index.the_row index_impl.ghosts labelled_index_send labelled_index_sync

pub view_sync : IsSync view_row
view_sync = registry.view_is_sync labelled_index.the_row index_impl.ghosts labelled_index_send labelled_index_sync
