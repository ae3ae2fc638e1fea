-- The views of new seats, and what one seat tells another.
use Rattle.std.specs.Prelude.{ℕ, ◌+◌, List, []}
use Rattle.tmem_spine.specs.declared.view.MarkedEffect.{MarkedEffect}
use Rattle.tmem_spine.specs.declared.view.Role.{Role}
use Rattle.tmem_spine.specs.declared.view.Role.TheVariants.{Start, Core, Journal, Pass, Note, Read}
use Rattle.tmem_spine.specs.declared.view.SeatView.{SeatView}
use Rattle.tmem_spine.specs.Views.{SpineName}

-- a view that knows nothing
abbrev pub blank_view : Role → ℕ → ℕ → SeatView
blank_view role start mark = record {
  role = role;
  start = start;
  committed = [];
  given = 0;
  aimed = [];
  durable = [];
  mark = mark;
  own = [];
  known = [];
  seen = [];
  trimmed = 0;
}

-- the first seat, before all steps
abbrev pub first_view : ℕ → SeatView
first_view start = blank_view Start start 0

-- the core's seat, from the first one
abbrev pub as_core : SeatView → SeatView
as_core v = record v { role = Core; trimmed = v.start }

abbrev pub journal_from : SeatView → SeatView
journal_from v = blank_view Journal v.start 0

-- a new pass from the core's seat, whose mark is how many there were
abbrev pub pass_from : SeatView → SeatView
pass_from v = blank_view Pass v.start v.given

abbrev pub gives : SeatView → SeatView
gives v = record v { given = v.given + 1 }

-- a note of what is committed, of what is durable, and of how many are
abbrev pub note : ℕ → List MarkedEffect → List MarkedEffect → ℕ → SeatView
note start known seen trimmed = record (blank_view Note start 0) { known = known; seen = seen; trimmed = trimmed }

-- a note that was read
abbrev pub read_note : SeatView
read_note = blank_view Read 0 0

-- the core after it read a note
abbrev pub core_told : SeatView → SeatView → SeatView
core_told v w = record v { known = w.known; seen = w.seen }

-- the journal after it read a note
abbrev pub journal_told : SeatView → SeatView → SeatView
journal_told v w = record v { known = w.known; seen = w.seen; trimmed = w.trimmed }

-- the name of no spine
abbrev pub no_name : SpineName
no_name = record {
  table = record { words = 0; slots = 0; views_name = 0; atom = 0; block = 0; offset = 0; slot_names = [] };
  start = 0;
}
