-- What is told of a fault, and of numbers that do not fit.
use Rattle.std.specs.Prelude.{ℕ, Bool, true, false, List, ◌++◌, codes}
use Rattle.std.specs.Fmt.{decimal}
use Rattle.tmem_fault.specs.declared.fault.Fault.{Fault}
use Rattle.tmem_fault.specs.declared.fault.Fault.TheVariants as fault
use Rattle.tmem_answers.specs.Answers.{cause_text}
use Rattle.tmem_explain.specs.declared.help.RefusalHelp.{RefusalHelp}
use Rattle.tmem_explain.specs.declared.numbers.NumbersHelp.{NumbersHelp}
use Rattle.tmem_explain.specs.declared.numbers.NumbersHelp.TheVariants as numbers

-- what went wrong, and what to do
abbrev pub fault_help : Fault → List ℕ
fault_help fault.Memory = codes "memory did not suffice, or no thread could be started; give the program more (ulimit -v, ulimit -u), or ask for less"
fault_help fault.Device = codes "a call on the file failed, or a sync of it failed before, and this process makes none any more; look at its rights, at room (df), at limits (ulimit -f, ulimit -n), whether it is read-only, and into the system's log (dmesg); then open the store again, and see what it has before anything is repeated; if the store fails again, end each program that uses it, copy it to a new file on another disk, and sync that; only if it was copied to its end, use that copy alone from then on"
fault_help fault.Closed = codes "an earlier failure has closed the store: a call on its file failed, or it could not be opened again; mend that, open the store again, and see what it has before anything is repeated"
fault_help fault.Unknown =
    codes "a write or sync failed; of a flush, all of the batch is in the store, or none of it; a checkpoint puts no transaction in doubt; repeat nothing yet: open the store again, after an error of the disk (dmesg) once the machine was started anew, and see how many transactions there are; if writes fail again, look for room, also below the device (df, lvs), or end each program that uses the store, copy it to a new file on another disk, and sync that; only if it was copied to its end, use that copy alone from then on"
fault_help fault.Full = codes "256 transactions wait to be durable; flush, and settle again"
fault_help fault.LogFull = codes "every slot of the log is used; make a checkpoint, and flush again"
fault_help fault.Conflict = codes "a value that the transaction read has changed; begin it again"
fault_help fault.NotFormatted = codes "this does not begin as a store; check the path; only if a store was there, move this away, and put a backup in its place (what the backup lacks is lost); only if there never was one, make one by tmem init, at another path or, on a block device, here by --in-place"
fault_help fault.Damaged =
    codes "the file is not as tmem leaves one: something else changed it, or a later release of tmem wrote it; run that release, or else move the file away and put a backup in its place (tmem does not repair it, and what the backup lacks is lost)"
fault_help (fault.Missing name) =
    codes "the invariant " ++ name ++ codes " is registered in the store, and this program or shape has none of this name; check the paths of the store and of the shape or script; if they are the ones, open the store with the program or shape that used it last, as that was then (a transaction there can retire it, unless that shape has it always); only if that had none of this name, too, something changed the file: move it away, and put a backup in its place (what the backup lacks is lost)"
fault_help (fault.Broken name) =
    codes "the invariant " ++ name ++ codes " is registered in the store, and as this program or shape means it, it is false of the store's values; check the paths of the store and of the shape or script; if they are the ones, compare what it means here with what it meant in the program or shape that used the store last, as that was then; if that differs, open the store with that one; only if not, something changed the file: move it away, and put a backup in its place (what the backup lacks is lost)"
fault_help (fault.BadPlan c) = cause_text c ++ codes "; change the transaction"
fault_help fault.BadName = codes "a name is not 1 to 16 letters from a to z, or stands twice, or there are more than 64; change the program"
fault_help fault.BadFootprint = codes "an invariant is over no variable, over more than 16, over one twice, or over one that the store lacks (they count from 0); correct that invariant"
fault_help fault.Spent = codes "the count of transactions or of images is at 2^64 - 1, to which no use comes, so something changed the file; see what it has (tmem show PATH); then move it away, and put a backup in its place (what the backup lacks is lost)"
fault_help fault.NoSeat = codes "all 32 passes were given out, and one that was dropped is lost until the store is opened again; keep passes, or share them: acquire_pass lends one, and release_pass hands it back"
fault_help fault.Geometry =
    codes "the numbers of variables and log slots that were asked for are out of limits (1 to 1024, 2 to 64) or not the store's own, or its file was cut off; check the paths; use the shape or script that the store was made with (tmem show PATH prints the store's numbers); if these are the same, move the file away, and put a backup in its place (what the backup lacks is lost)"

-- what to do where an opening refuses bytes by a fault: whether no store is so short, and whether they were read without a lock
abbrev help_of : Fault → Bool → Bool → List ℕ
help_of fault.Geometry true shown = codes "these bytes are too few for a store; check the path; only if a store was there, move this away, and put a backup in its place (what the backup lacks is lost)"
help_of fault.Geometry false shown = codes "the file was cut off, or is no store; check the path, or move it away and put a backup in its place (what the backup lacks is lost)"
help_of fault.Damaged no_store true = codes "if a program has it open, look again; else " ++ fault_help fault.Damaged
help_of f no_store shown = fault_help f

abbrev pub refusal_help : RefusalHelp → List ℕ
refusal_help help = help_of help.fault help.is_of_no_store help.is_shown

-- the numbers that were asked for, beside what there is
abbrev pub numbers_help : NumbersHelp → List ℕ
numbers_help (numbers.Limits vars slots) =
    codes "a store has 1 to 1024 variables and 2 to 64 log slots, and " ++ (decimal vars ++ (codes " and " ++ (decimal slots ++ codes " were asked for")))
numbers_help (numbers.Other vars slots had_vars had_slots) =
    codes "the store has " ++ (decimal had_vars ++ (codes " variables and " ++ (decimal had_slots ++ (codes " log slots, and " ++ (decimal vars
    ++ (codes " and " ++ (decimal slots ++ codes " were asked for; check both paths; open the store with the shape or script that it was made with (to change the numbers in another opens it under other invariants); only if this very file had the others before, something changed it: move it away, and put a backup in its place (what the backup lacks is lost)")))))))
numbers_help (numbers.Short vars slots has wants) =
    codes "it has " ++ (decimal has ++ (codes " bytes, and a store of " ++ (decimal vars ++ (codes " variables and " ++ (decimal slots ++ (codes " log slots has "
    ++ (decimal wants ++ codes "; check the path, or move it away and put a backup in its place (what the backup lacks is lost)")))))))
numbers_help (numbers.NoRoom has wants) =
    codes "it has " ++ (decimal has ++ (codes " bytes, and the store takes " ++ (decimal wants ++ codes "; if a store was there, restore a backup; else make it at least so long, or name another")))
numbers_help (numbers.NotBlank has wants) =
    codes "it has " ++ (decimal has ++ (codes " bytes, not all of them 0, and the store takes " ++ (decimal wants ++ codes "; if a store was there, move this away, and put a backup in its place; else name another")))
