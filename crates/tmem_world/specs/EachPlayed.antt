-- A list of events is played one event after another.
use Rattle.std.specs.Prelude.{◌≡◌, List}
use Rattle.tmem_event.specs.declared.event.Event.{Event}
use Rattle.tmem_event.specs.declared.event.Reply.{Reply}
use Rattle.tmem_world.specs.declared.world.World.{World}
use Rattle.tmem_world.specs.AnyDevice.{Reopens}
use Rattle.tmem_world.specs.Chain.{StepsOn}
use Rattle.tmem_world.specs.OneByOne.{OneByOne}
use Rattle.tmem_world.specs.Replies.{failures_by, CallsNoDevice, IsFailedCall}
use Rattle.tmem_world.specs.Represents.{IsStep, EachMoment, WritesInStore, KeepsSetting, numbers_of, world_disk, world_view, durable_number}

-- what an event was answered, and what became of the device and of the setting
pub record IsAnswered {D T S : Type 0} {d t s : _} (old : World D T S d t s) (e : Event) (r : Reply) (new : World D T S d t s) : Type 0 where
  pub step : IsStep old e r new
  pub reopened : Reopens old e r new
  pub any_moment : EachMoment old new
  pub elsewhere : WritesInStore (numbers_of old) (world_view old) (world_view new)
  pub failures : (world_view new).failures ≡ failures_by r (world_view old).failures
  pub failed_call : IsFailedCall e r (world_view new).last_fault
  pub still : CallsNoDevice (durable_number old) e r → world_disk new ≡ world_disk old
  pub kept : KeepsSetting old new

-- what a step says of an event: so it was answered, and the history goes on by it
pub record IsPlayed {D T S : Type 0} {d t s : _} (old : World D T S d t s) (e : Event) (r : Reply) (new : World D T S d t s) : Type 0 where
  pub answered : IsAnswered old e r new
  pub chain : StepsOn old e r new

-- Each of the events was played so, from the old world to the new one.
abbrev pub PlaysEach : {D T S : Type 0} {d t s : _} → World D T S d t s → List Event → List Reply → World D T S d t s → Type 0
PlaysEach old es rs new = OneByOne (λ w e r w'. IsPlayed w e r w') old es rs new
