use Rattle.std.proofs.Common.{◌≡◌, ◌≤◌, ◌++◌, length}
use Rattle.std.specs.Vec.{vec_capacity, vec_len}
use Rattle.tmem_world.specs.EachPlayed.{PlaysEach}
use Rattle.tmem_world.proofs.world.World.play.Given as goal

abbrev pub invariant-loop-event : goal.invariant-loop-event
invariant-loop-event g l = record {
  parts : l.yielded ++ l.event-iterator.rest.items ≡ l.fn.events.items;
  long : vec_len l.replies ≡ length l.yielded;
  room : length l.fn.events.items ≤ vec_capacity l.replies;
  each : PlaysEach l.fn.self l.yielded l.replies.items l.self;
}
