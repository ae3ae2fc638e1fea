-- Why a file could not be used: what an error of the system tells, which causes there are for what was wanted, and what to do.
use Rattle.std.specs.Prelude.{ℤ, pos, Bool, true, false, if◌then◌else◌, ℕ, ◌-◌, List, length, slice_get, codes, Option, Some, None}
use Rattle.std.specs.Ordering.{int_eq}
use Rattle.std.specs.declared.io.ErrorKind.{ErrorKind}
use Rattle.std.specs.declared.io.ErrorKind.TheVariants as kind
use Rattle.tmem_explain.specs.declared.device.CallCause.{CallCause}
use Rattle.tmem_explain.specs.declared.device.CallCause.TheVariants as call
use Rattle.tmem_explain.specs.declared.device.DeviceCause.{DeviceCause}
use Rattle.tmem_explain.specs.declared.device.DeviceCause.TheVariants as cause
use Rattle.tmem_explain.specs.declared.device.Wanted.{Wanted}
use Rattle.tmem_explain.specs.declared.device.Wanted.TheVariants as wanted

-- the system's number for an error of a disk is 5 (EIO)
abbrev other_cause : Option ℤ → CallCause
other_cause None = call.Other
other_cause (Some number) = if int_eq number (pos 5) then call.DiskError else call.Other

-- what an error of this kind and this number tells
abbrev pub call_cause : ErrorKind → Option ℤ → CallCause
call_cause kind.PermissionDenied number = call.NoPermission
call_cause kind.ReadOnlyFilesystem number = call.ReadOnly
call_cause kind.StorageFull number = call.NoRoom
call_cause kind.QuotaExceeded number = call.NoRoom
call_cause kind.InvalidFilename number = call.LongName
call_cause kind.FileTooLarge number = call.Limit
call_cause kind.FilesystemLoop number = call.Circle
call_cause _ number = other_cause number

-- a file system without hard links refuses one by either of these kinds
abbrev pub link_cause : ErrorKind → Option ℤ → DeviceCause
link_cause kind.PermissionDenied number = cause.NoLinks
link_cause kind.Unsupported number = cause.NoLinks
link_cause k number = cause.Call (call_cause k number)

-- the last byte of a text, if it has one
abbrev pub last_byte : List ℕ → Option ℕ
last_byte text = slice_get text (length text - 1)

-- A lock is told only of what this program does not have open itself, that something is there, maybe as this program made it, only of a
-- new file, and that nothing is only of what was to be there. That a second name is in the way is told only of what was to be used.
abbrev pub may_be_told : Wanted → DeviceCause → Bool
may_be_told wanted.Read cause.Locked = false
may_be_told wanted.Held cause.Locked = false
may_be_told wanted.Made cause.Locked = false
may_be_told wanted.Made cause.Missing = false
may_be_told wanted.FoundOrMade cause.Missing = false
may_be_told wanted.Read cause.There = false
may_be_told wanted.Found cause.There = false
may_be_told wanted.Held cause.There = false
may_be_told wanted.FoundOrMade cause.There = false
may_be_told wanted.Read cause.NameInDoubt = false
may_be_told wanted.Found cause.NameInDoubt = false
may_be_told wanted.Held cause.NameInDoubt = false
may_be_told wanted.FoundOrMade cause.NameInDoubt = false
may_be_told wanted.Read cause.ClosedFolder = false
may_be_told wanted.Found cause.ClosedFolder = false
may_be_told wanted.Held cause.ClosedFolder = false
may_be_told wanted.Read cause.NoLinks = false
may_be_told wanted.Found cause.NoLinks = false
may_be_told wanted.Held cause.NoLinks = false
may_be_told wanted.Read cause.SecondName = false
may_be_told wanted.Made cause.SecondName = false
may_be_told wanted c = true

-- why a call was refused, and what to do
abbrev pub call_help : CallCause → List ℕ
call_help call.NoPermission = codes "this user may not use it; look at its rights, at those of each folder on the path, and at its attributes (lsattr), and change what forbids it, or run as its owner"
call_help call.ReadOnly = codes "its file system is mounted read-only; look why (dmesg), and mount it for writing; only for a new file name a path on another"
call_help call.NoRoom = codes "there is no room on its file system, or no quota is left; free some (df, df -i, quota); only for a new file name a path on another"
call_help call.LongName = codes "the path or its last part is too long; name one whose last part has at most 250 bytes, for init 245 (STORE.json)"
call_help call.Limit = codes "this process may not write a file so long (ulimit -f); raise that limit, and run the program again"
call_help call.Circle = codes "links on this path lead in a circle; mend them, or name the file"
call_help call.DiskError = codes "the disk reports an error (EIO, see dmesg); copy what was there to a new file on another disk, not onto a device: a file by cp, of a block device the first 286720 bytes by dd iflag=direct with bs of blockdev --getss, never conv=noerror; use that if it was copied to its end or, of a store, if tmem show --explain finds no transaction of it missing; only else use a backup (what that lacks is lost); make a new one only if there was none"
call_help call.Other = codes "a call on it failed, for a reason that is not seen now; if another program was just making it, run this one again; else look at its rights, at room (df), at limits (ulimit -f, ulimit -n), whether it is read-only, into the system's log (dmesg), and for files PATH.new0 to PATH.new999 that are left over (remove them while nothing makes a store and, if PATH is there, only once it was opened); open or make it again, after an error of the disk once the machine was started anew; if a store fails so again, end each program that uses it, copy it to a new file on another disk, and sync that; only if it was copied to its end, use that copy alone from then on"

-- why a file could not be used, and what to do
abbrev pub device_help : DeviceCause → List ℕ
device_help cause.Empty = codes "the path is empty; name a file"
device_help cause.Locked = codes "another program has it open (fuser or lsof says which); wait until that ends, or end it if it is not wanted"
device_help cause.Folder = codes "it is a folder; name a file"
device_help cause.NoFile = codes "it is no file and no block device; name one"
device_help cause.Missing = codes "nothing has this path; check it, and that its disk is mounted (findmnt)"
device_help cause.DeadLink = codes "it is a link to nothing; look whether the disk that it leads to is mounted (findmnt), mend the link, or name a file"
device_help cause.There = codes "something has this path, and a new file was to be made; name another path"
device_help cause.NameInDoubt = codes "it has a second name, as a new file has (PATH.new0) until its folder is synced; if it may have been there before, name another path, and remove nothing; only if it surely was not, this run made it, and that sync failed: look into the system's log (dmesg), and then remove both names"
device_help cause.MissingFolder = codes "its folder is not there; check the path, and that its disk is mounted (findmnt); make the folder only for a new file"
device_help cause.NoFolder = codes "a part of this path, or of a link on it, is used as a folder and is none; check the path"
device_help cause.Slash = codes "it ends in /, as the path of a folder does; name a file"
device_help cause.ClosedFolder = codes "this user may not make a file in its folder, or not read it, as its sync needs; change the folder's rights or attributes (lsattr), or name a path in another"
device_help cause.NoLinks = codes "its file system makes no hard links, by which a new file gets its name; name a path on another"
device_help cause.NoBytes = codes "the device has 0 bytes; look whether anything is attached to it, or what should be to another one (lsblk, losetup -l)"
device_help cause.SecondName = codes "it has a second name, as a new file NAME (readlink -f tells it) has NAME.new0 until its folder is synced, and that sync failed; if this user may not read the folder, change that, or let one who may do it (sync FOLDER), and then remove NAME.new0, never NAME, and only if ls -i shows the same number for both (find FOLDER -samefile NAME tells other names); if it fails otherwise, look into the system's log (dmesg)"
device_help (cause.Call c) = call_help c
