use Rattle.std.proofs.Common.{arith, rules}
use Rattle.tmem_redolog.proofs.Calls.{not_of_sync}
use Rattle.tmem_redolog.proofs.emptying.empty.Goals as goal

pub returns-in-Err-clause-closes : goal.returns-in-Err-clause-closes
returns-in-Err-clause-closes g c = c.close_stale.ensures.closes

pub returns-clause-closed : goal.returns-clause-closed
returns-clause-closed g c = λ synced k below. c.in-Ok.ensures.closed synced k (omega arith) below

pub returns-clause-closes : goal.returns-clause-closes
returns-clause-closes g c = c.close_stale.ensures.closes

pub returns-clause-idle : goal.returns-clause-idle
returns-clause-idle g c = c.close_stale.ensures.idle

pub returns-clause-read_closed : goal.returns-clause-read_closed
returns-clause-read_closed g c = c.in-Ok.ensures.read_closed

pub returns-clause-durable : goal.returns-clause-durable
returns-clause-durable g c = c.in-Ok.ensures.durable

pub returns-clause-uses : goal.returns-clause-uses
returns-clause-uses g c = record { capacity = c.close_stale.ensures.call.capacity; model = c.close_stale.ensures.call.model; failures = c.in-Ok.ensures.call.ok }

pub returns-in-Err-Sync-clause-closes : goal.returns-in-Err-Sync-clause-closes
returns-in-Err-Sync-clause-closes g c = c.close_stale.ensures.closes

pub returns-in-Err-Sync-clause-idle : goal.returns-in-Err-Sync-clause-idle
returns-in-Err-Sync-clause-idle g c = c.close_stale.ensures.idle

pub returns-in-Err-Sync-clause-uses : goal.returns-in-Err-Sync-clause-uses
returns-in-Err-Sync-clause-uses g c = record { capacity = c.close_stale.ensures.call.capacity; model = c.close_stale.ensures.call.model; failures = c.in-Err-Sync.ensures.call.err }

pub returns-in-Err-Sync-clause-read_closed : goal.returns-in-Err-Sync-clause-read_closed
returns-in-Err-Sync-clause-read_closed g c = λ _. tt

pub returns-in-Err-Sync-clause-closed : goal.returns-in-Err-Sync-clause-closed
returns-in-Err-Sync-clause-closed g c = λ _. tt

pub returns-in-Err-Sync-clause-durable : goal.returns-in-Err-Sync-clause-durable
returns-in-Err-Sync-clause-durable g c = λ _. tt

pub returns-in-Err-clause-idle : goal.returns-in-Err-clause-idle
returns-in-Err-clause-idle g c = c.close_stale.ensures.idle

pub returns-in-Err-clause-uses : goal.returns-in-Err-clause-uses
returns-in-Err-clause-uses g c = record { capacity = c.close_stale.ensures.call.capacity; model = c.close_stale.ensures.call.model; failures = c.in-Err.ensures.call.err }

pub returns-in-Err-clause-read_closed : goal.returns-in-Err-clause-read_closed
returns-in-Err-clause-read_closed g c = λ _. tt

pub returns-in-Err-clause-closed : goal.returns-in-Err-clause-closed
returns-in-Err-clause-closed g c = λ _. tt

pub returns-in-Err-clause-durable : goal.returns-in-Err-clause-durable
returns-in-Err-clause-durable g c = λ _. tt

pub returns-in-Err-clause-gate_failed : goal.returns-in-Err-clause-gate_failed
returns-in-Err-clause-gate_failed g c = λ _. rw c.in-Err.ensures.call.last (not_of_sync c.in-Err.field-0 (search rules))
