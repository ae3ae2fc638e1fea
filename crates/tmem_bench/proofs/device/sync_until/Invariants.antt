use Rattle.std.proofs.Common.{◌≡◌, ◌≤◌}
use Rattle.tmem_bench.proofs.device.sync_until.Given as goal

abbrev pub invariant-loop : goal.invariant-loop
invariant-loop g l = (32 ≤ (g.D.Disk.view l.disk).capacity) × (l.had.work ≡ l.fn.had.work)
