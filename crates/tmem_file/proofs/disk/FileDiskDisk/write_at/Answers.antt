use Rattle.std.proofs.lemmas.Grind.{common_steps}
use Rattle.std.proofs.Common.{arith, rules, ◌≡◌, ◌∷◌, length}
use Rattle.tmem_file.specs.Record.{holds}
use Rattle.tmem_file.specs.Recorded.{call_events, Spoils}
use Rattle.tmem_file.proofs.Steps.{written_outside, spoilt_outside}
use Rattle.tmem_file.proofs.disk.FileDiskDisk.write_at.Goals as goal

pub returns-then-is_err-clause-elsewhere : goal.returns-then-is_err-clause-elsewhere
returns-then-is_err-clause-elsewhere c =
    let now : Spoils c.args.at (length c.args.bytes.now) (call_events c.args.self.now.file.calls) (call_events c.write.new.self.calls) = search rules in
    λ k. rw c.note.ensures.calls (spoilt_outside _ _ _ _ c.write.ensures.start c.args.self.now.within c.args.at (length c.args.bytes.now) c.requires now)

pub returns-clause-elsewhere : goal.returns-clause-elsewhere
returns-clause-elsewhere c =
    let now : call_events c.write.new.self.calls ≡ holds c.args.at c.args.bytes.now ∷ call_events c.args.self.now.file.calls = search rules in
    λ k. written_outside _ _ _ _ c.write.ensures.start c.args.self.now.within c.args.at c.args.bytes.now c.requires now

pub returns-then-is_err-clause-time : goal.returns-then-is_err-clause-time
returns-then-is_err-clause-time c = grind (arith, common_steps)
