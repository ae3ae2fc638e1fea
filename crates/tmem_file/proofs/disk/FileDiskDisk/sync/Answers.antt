use Rattle.std.proofs.Common.{rules, ◌≡◌, ◌∷◌, true}
use Rattle.tmem_file.specs.Record.{synced, is_synced}
use Rattle.tmem_file.specs.Recorded.{start_of, call_events}
use Rattle.tmem_file.proofs.Steps.{synced_leaves, nothing_to_sync}
use Rattle.tmem_file.proofs.disk.FileDiskDisk.sync.Goals as goal

pub returns-then-is_synced-clause-durable : goal.returns-then-is_synced-clause-durable
returns-then-is_synced-clause-durable c =
    let is : is_synced (call_events c.args.self.now.file.calls) ≡ true = search rules in
    λ k left it. nothing_to_sync (start_of c.args.self.now.file.calls) (call_events c.args.self.now.file.calls) is left it

pub returns-clause-crash : goal.returns-clause-crash
returns-clause-crash c =
    let now : call_events c.sync.new.self.calls ≡ synced ∷ call_events c.args.self.now.file.calls = search rules in
    record { each = λ k left is. synced_leaves _ _ _ _ c.sync.ensures.start c.args.self.now.within now left is }
