-- What a run leaves that is not durable.
use Rattle.std.specs.Prelude.{ℕ, ◌+◌, ◌-◌, ◌^◌, min, nat_eq, nat_lt, Bool, true, false, if◌then◌else◌, List, codes, ◌++◌, Option, Some, None}
use Rattle.std.specs.Fmt.{decimal}
use Rattle.tmem_fault.specs.declared.fault.Fault.{Fault}
use Rattle.tmem_fault.specs.declared.fault.Fault.TheVariants as fault
use Rattle.tmem_tree.specs.declared.settled.Settled.{Settled}
use Rattle.tmem_tree.specs.declared.settled.Settled.TheVariants as settled
use Rattle.tmem_event.specs.declared.event.Event.{Event}
use Rattle.tmem_event.specs.declared.event.Event.TheVariants as event
use Rattle.tmem_event.specs.declared.event.Reply.{Reply}
use Rattle.tmem_event.specs.declared.event.Reply.TheVariants as reply
use Rattle.tmem_run.specs.declared.counts.CommitCounts.{CommitCounts}
use Rattle.tmem_run.specs.declared.counts.Lost.{Lost}

-- the first opening found so many, and all of them are durable
abbrev pub found_counts : ℕ → CommitCounts
found_counts count = record { committed = count; durable = count; in_doubt = false; gone = 0; first_gone = 0 }

-- a further opening found so many: what was committed and is not among them is gone
abbrev pub reopened_counts : CommitCounts → ℕ → CommitCounts
reopened_counts c count =
    if nat_lt count c.committed
    then record { committed = count; durable = count; in_doubt = false; gone = min (c.gone + (c.committed - count)) (2 ^ 64 - 1); first_gone = if nat_eq c.gone 0 then count else c.first_gone }
    else record { committed = count; durable = count; in_doubt = false; gone = c.gone; first_gone = c.first_gone }

-- a transaction of this number was committed, which was the newest one
abbrev pub settled_counts : CommitCounts → Settled → CommitCounts
settled_counts c (settled.Committed number registers) =
    record { committed = min (number + 1) (2 ^ 64 - 1); durable = c.durable; in_doubt = c.in_doubt; gone = c.gone; first_gone = c.first_gone }
settled_counts c _ = c

-- a failed sync of this event leaves a batch in doubt
abbrev pub is_flush_event : Event → Bool
is_flush_event event.Flush = true
is_flush_event _ = false

-- a failed sync of a flush leaves one batch in doubt
abbrev pub failed_counts : CommitCounts → Bool → Fault → CommitCounts
failed_counts c is_flush fault.Unknown =
    record { committed = c.committed; durable = c.durable; in_doubt = if c.in_doubt then true else is_flush; gone = c.gone; first_gone = c.first_gone }
failed_counts c is_flush _ = c

-- how many are committed, durable and gone behind a reply to an event, which was a flush or not
abbrev pub commit_counts_after : CommitCounts → Bool → Reply → CommitCounts
commit_counts_after c is_flush (reply.Opened count) = reopened_counts c count
commit_counts_after c is_flush (reply.Durable count) = record { committed = c.committed; durable = count; in_doubt = c.in_doubt; gone = c.gone; first_gone = c.first_gone }
commit_counts_after c is_flush (reply.Looked count) = record { committed = c.committed; durable = count; in_doubt = c.in_doubt; gone = c.gone; first_gone = c.first_gone }
commit_counts_after c is_flush (reply.Settled it) = settled_counts c it
commit_counts_after c is_flush (reply.Fault it) = failed_counts c is_flush it
commit_counts_after c is_flush _ = c

-- the number of the first one that is lost, where one is
abbrev pub first_lost_of : CommitCounts → ℕ
first_lost_of c = if nat_eq c.gone 0 then c.durable else c.first_gone

-- what is committed and not known durable, or gone
abbrev pub lost_of : CommitCounts → Option Lost
lost_of c =
    if nat_lt c.durable c.committed
    then Some (record { first = first_lost_of c; count = min (c.gone + (c.committed - c.durable)) (2 ^ 64 - 1); in_doubt = c.in_doubt })
    else (if nat_eq c.gone 0 then None else Some (record { first = first_lost_of c; count = c.gone; in_doubt = false }))

-- what is told of that: where all of them are lost, and where the first ones may be durable
abbrev pub gone_text : Lost → List ℕ
gone_text lost =
    codes "not durable, and so gone: " ++ (decimal lost.count ++ (codes " of the committed transactions, from number " ++ (decimal lost.first ++ codes " on: each that is not among the first N of the next `opened N`, or, if none follows, of the last `durable N` or `opened N`; to have them, play them alone, in their order, and flush until `durable N` has all; if later ones are kept, see first what this undoes")))

abbrev pub doubt_text : Lost → List ℕ
doubt_text lost =
    codes "not known durable: " ++ (decimal lost.count ++ (codes " of the committed transactions, from number " ++ (decimal lost.first ++ codes " on; those of a flush that met fault 4 (64 at most) are all there or none, and the others are gone; open the store again, after an error of the disk once the machine was started anew, and it says how many there are (behind a reopen of the script the numbers from its `opened N` on are given again: tell those apart by what they write)")))

abbrev pub lost_text : Lost → List ℕ
lost_text lost = if lost.in_doubt then doubt_text lost else gone_text lost
