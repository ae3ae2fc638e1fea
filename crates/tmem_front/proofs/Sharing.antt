-- A front may be shared between threads: what lies under its locks may go to another thread, and the rest may be shared.
use denote.RattleType.{RattleType}
use denote.Struct.Declared.{shape}
use denote.Param.Send.{IsSend, IsSync, sendable, recorded_sync, struct_sync}
use Rattle.std.proofs.Crossing.{crosses}
use Rattle.std.proofs.alloc.Global.TheSendSync as heap
use Rattle.atomic_table.proofs.shared.Seat.TheSendSync as seat
use Rattle.atomic_table.proofs.owned.Table.TheSendSync as table
use Rattle.tmem_disk.specs.declared.disk.Disk.{Ghosts as DiskGhosts}
use Rattle.tmem_state.specs.contracts.batch.Batch.{the_row as batch_row}
use Rattle.tmem_state.specs.contracts.state.State.{the_row as state_row}
use Rattle.tmem_invariants.specs.declared.named.Invariants.{Ghosts as TestGhosts}
use Rattle.tmem_tree.specs.declared.steps.StoredSteps.{Ghosts as StepGhosts}
use Rattle.tmem_tree.specs.contracts.signature.Signature.{the_row as signature_row}
use Rattle.tmem_core.specs.contracts.waiting.Waiting.{the_row as waiting_row}
use Rattle.tmem_spine.specs.declared.naming.Naming.{Ghosts as NameGhosts}
use Rattle.tmem_spine.specs.contracts.seats.CoreSide.{the_row as core_side_row}
use Rattle.tmem_spine.specs.contracts.seats.JournalSide.{the_row as journal_side_row}
use Rattle.tmem_spine.specs.contracts.spine.Spine.{the_field as spine_field, the_type as spine_type}
use Rattle.tmem_seats.specs.declared.naming.ProgramNaming.{Ghosts as ProgramGhosts}
use Rattle.tmem_seats.specs.declared.naming.StoreNaming.{Ghosts as StoreGhosts}
use Rattle.tmem_seats.specs.contracts.core_seat.CoreSeat.{the_row as core_row}
use Rattle.tmem_seats.specs.contracts.journal_seat.JournalSeat.{the_row as journal_row}
use Rattle.tmem_seats.specs.contracts.pass.Pass.{the_row as pass_row}
use Rattle.tmem_spine.specs.contracts.seats.PassSide.{the_row as seat_row}
use Rattle.tmem_tentative.specs.contracts.cursor.Cursor.{the_row as cursor_row}
use Rattle.tmem_front.specs.contracts.brief_lock.BriefLock.{the_field as lock_field, the_type as lock_type}
use Rattle.tmem_front.specs.contracts.pool.Pool.{the_row as pool_row}
use Rattle.std.specs.contracts.sync.Condvar.{the_row as condvar_row}
use Rattle.tmem_front.specs.contracts.front.Front.{the_row, the_type}

signature_sync : IsSync signature_row
signature_sync = search (sendable, crosses) depth 40 fits 4000

condvar_sync : IsSync condvar_row
condvar_sync = search (sendable, crosses) depth 40 fits 4000

state_send : IsSend state_row
state_send = search (sendable, crosses) depth 40 fits 4000

batch_send : IsSend batch_row
batch_send = search (sendable, crosses) depth 40 fits 4000

waiting_send : IsSend waiting_row
waiting_send = search (sendable, crosses) depth 40 fits 4000

cursor_send : IsSend cursor_row
cursor_send = search (sendable, crosses) depth 40 fits 4000

module _ (N : RattleType) (n : NameGhosts N.Denot) where
  core_side_send : IsSend N → IsSend (core_side_row N n)
  core_side_send a = search (sendable, crosses, seat.the_send) depth 40 fits 4000

  journal_side_send : IsSend N → IsSend (journal_side_row N n)
  journal_side_send a = search (sendable, crosses, seat.the_send) depth 40 fits 4000

  seat_send : IsSend N → IsSend (seat_row N n)
  seat_send a = search (sendable, crosses, seat.the_send) depth 40 fits 4000

  spine_sync : IsSync (spine_field N n).row
  spine_sync = struct_sync (shape (spine_type N n)) (search (sendable, crosses, table.the_field_sync, heap.the_send, heap.the_sync) depth 20, (search sendable, (search sendable, tt)))

brief_lock_sync : (R : RattleType) → IsSend R → IsSync (lock_field R).row
brief_lock_sync R a = struct_sync (shape (lock_type R)) (search (crosses, a), tt)

module _ (D N T S : RattleType) (d : DiskGhosts D.Denot) (s : StoreGhosts N.Denot) (n : NameGhosts N.Denot) (p : ProgramGhosts N.Denot) (i : TestGhosts T.Denot) (st : StepGhosts S.Denot) where
  core_send : IsSend N → IsSend T → IsSend (core_row N T i s n p)
  core_send a b = search (sendable, crosses, core_side_send, waiting_send, state_send) depth 40 fits 4000

  journal_send : IsSend D → IsSend N → IsSend (journal_row D N d s n p)
  journal_send a b = search (sendable, crosses, journal_side_send, state_send, batch_send) depth 40 fits 4000

  pass_send : IsSend N → IsSend (pass_row N n)
  pass_send a = search (sendable, crosses, seat_send, cursor_send) depth 40 fits 4000

  pool_send : IsSend N → IsSend (pool_row N n)
  pool_send a = search (sendable, crosses, pass_send) depth 40 fits 4000

  pub front_sync : IsSend D → IsSend N → IsSync N → IsSend T → IsSend S → IsSync S → IsSync (the_row D N T S d s n p i st)
  front_sync a b b' e f f' =
      let core = core_send b e in
      let journal = journal_send a b in
      let pool = pool_send b in
      let whole = the_type D N T S d s n p i st in
      recorded_sync _ whole.D whole.to whole.to_one (struct_sync (shape whole) (search (sendable, crosses) depth 20, (search (sendable, crosses), (f', (search (sendable, crosses, signature_sync) depth 20, (spine_sync N n, (brief_lock_sync (core_row N T i s n p) core, (search (sendable, crosses, condvar_sync) depth 20, (search (crosses, journal), (search (crosses, pool), (search (sendable, crosses) depth 20, tt)))))))))))
