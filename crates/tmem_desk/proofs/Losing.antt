-- No request is lost: lines that are taken, one after another, and what is told of them where the store cannot go on.
use Rattle.std.proofs.Common.{◌≡◌, ◌≢◌, ◌⊎◌, inl, inr, ⊎_elim, ℕ, zero, suc, ℤ, ◌+◌, Bool, true, false, nat_lt, List, [], ◌∷◌, ◌++◌, length, map, append_assoc, length-append, Option, Some, Result, Ok, Err, IfErr, refl, ap, sym, ◌∙◌, subst, arith}
use Rattle.std.specs.Prelude.{All, MatchBool, count_by, flat_map}
use Rattle.std.specs.Result.{IsErrAnd}
use Rattle.std.proofs.lemmas.Bool.{false≢true}
use Rattle.std.proofs.lemmas.Bool.Decides.{nat_tests}
use Rattle.std.proofs.lemmas.List.{append-nil, flat_map_more, map_push}
use Rattle.std.proofs.lemmas.List.Concat.{flat_map-append}
use Rattle.std.proofs.lemmas.List.Elements.{All-nil, All-append, All-push}
use Rattle.tmem_fault.specs.declared.fault.Fault.{Fault}
use Rattle.tmem_fault.specs.declared.fault.Fault.TheVariants.{Memory}
use Rattle.tmem_lines.specs.Lines.{line, IsLine, IsLongLine, IsUnbroken, HoldsRestOf, IsCutOff}
use Rattle.tmem_lines.specs.Views.{LinesView}
use Rattle.tmem_seats.specs.Settling.{SeesMore}
use Rattle.tmem_spine.specs.History.{count}
use Rattle.tmem_spine.specs.Views.{PassRoleView}
use Rattle.tmem_answers.specs.declared.answer.Answer.TheVariants as answer
use Rattle.tmem_requests.specs.declared.request.RequestBody.{RequestBody}
use Rattle.tmem_desk.specs.Asking.{Store}
use Rattle.tmem_desk.specs.Desks.{DeskView}
use Rattle.tmem_desk.specs.Due.{LineCounts, LinesCount, LosesNone, KeepsDue, answers_any_of, due_of, waits_of}
use Rattle.tmem_desk.specs.Failing.{AnswersLine, AnswersOnly, GoesBehind, IsLast, IsUnprinted, IsMemoryOrOutput, LearnsOnly, OrMemory, PassesAll, PassesShort, PassesText, PrintsBeginning, PrintsPart, Stops, StopsBehind, StopsWithin, TakesPart, TakesRest, TellsAll, TellsBehind, TellsEach, TellsWhy, TriesUntil}
use Rattle.tmem_desk.specs.Serving.{IsAskedOf, RefusesLine, RefusesLong, Round, Splits, TakesAll, TakesLast, TakesLine, TakesText, TakesShort, TriesNext, Wakes, by, one_line_more, tells, with_closed}
use Rattle.tmem_desk.specs.Steps.{LabelledSteps, Repeats}
use Rattle.tmem_desk.specs.Told.{TellsOnly, answer_told, told_last, told_lines}
use Rattle.tmem_desk.specs.declared.failure.DeskFailure.{DeskFailure}
use Rattle.tmem_desk.specs.declared.failure.DeskFailure.TheVariants.{Output}
use Rattle.tmem_desk.specs.declared.failure.DeskFailure.TheVariants as failure
use Rattle.tmem_desk.specs.declared.told.Told.{Told}
use Rattle.tmem_desk.proofs.Counted.{closed_due, last_count, long_due, refused_due, repeated_due, taken_due, tells_one, waits_again}
use Rattle.tmem_desk.proofs.Sight.{sees_as}
use Rattle.tmem_desk.proofs.StepLaws.{LabelledSteps-push}
use Rattle.tmem_desk.proofs.Taking.{TakesSome, short_text}

-- ---- errors that are handed on

-- an error that is passed on as it is
pub handed : {X E : Type 0} (r : Result X E) (e : E) (P : E → Type 0) → IsErrAnd r (λ y. y ≡ e) → P e → IfErr r P
handed (Ok x) e P same here = tt
handed (Err y) e P same here = subst P (sym same) here

-- want of memory
pub memory_only : {X : Type 0} (Q : Type 0) (r : Result X Fault) → IfErr r (λ f. f ≡ Memory) → IfErr r (λ f. OrMemory f Q)
memory_only Q (Ok x) is = tt
memory_only Q (Err f) is = inl is

-- what holds whatever the error is
pub any_err : {X E : Type 0} (r : Result X E) (P : E → Type 0) → ((e : E) → P e) → IfErr r P
any_err (Ok x) P all = tt
any_err (Err e) P all = all e

-- what follows where memory sufficed
pub or_memory : {P Q : Type 0} (f : Fault) → (P → Q) → OrMemory f P → OrMemory f Q
or_memory f more (inl is) = inl is
or_memory f more (inr so) = inr (more so)

pub err_or_memory : {X P Q : Type 0} (r : Result X Fault) → (P → Q) → IfErr r (λ f. OrMemory f P) → IfErr r (λ f. OrMemory f Q)
err_or_memory (Ok x) more so = tt
err_or_memory (Err f) more so = or_memory f more so

-- what follows of each text
pub each_text : {X P : Type 0} {Is Q : List ℕ → Type 0} (r : Result X Fault) → ((text : List ℕ) → Is text → P → Q text) → IfErr r (λ f. OrMemory f P) → IfErr r (λ f. (text : List ℕ) → Is text → OrMemory f (Q text))
each_text (Ok x) more so = tt
each_text (Err f) more so = λ text is. or_memory f (more text is) so

pub memory_texts : {X : Type 0} (Is Q : List ℕ → Type 0) (r : Result X Fault) → IfErr r (λ f. f ≡ Memory) → IfErr r (λ f. (text : List ℕ) → Is text → OrMemory f (Q text))
memory_texts Is Q (Ok x) is = tt
memory_texts Is Q (Err f) is = λ text so. inl is

-- ---- lines and what counts of them

-- lines that count, in two parts
counts_split : (s : Store) (among : ℤ → Bool) (others : Bool) (xs ys : List (List ℕ)) (n : ℕ) → LinesCount s among others (xs ++ ys) n
    → (m : ℕ) × (k : ℕ) × LinesCount s among others xs m × LinesCount s among others ys k × (n ≡ m + k)
counts_split s among others [] ys n c = (0, n, refl, c, omega arith)
counts_split s among others (x ∷ xs) ys n c =
    let rest = counts_split s among others xs ys c.1 c.3 in
    (c.0 + rest.0, rest.1, (c.0, rest.0, c.2, rest.2, refl), rest.3, omega (arith, c.4, rest.4))

pub loses_then : (s : Store) (xs ys : List (List ℕ)) (v mid w : DeskView) → LosesNone s xs v mid → LosesNone s ys mid w → LosesNone s (xs ++ ys) v w
loses_then s xs ys v mid w one two among others n c =
    let parts = counts_split s among others xs ys n c in
    omega (arith, one among others parts.0 parts.2, two among others parts.1 parts.3, parts.4)

pub loses_and_keeps : (s : Store) (xs : List (List ℕ)) (v mid w : DeskView) → LosesNone s xs v mid → KeepsDue mid w → LosesNone s xs v w
loses_and_keeps s xs v mid w one keeps among others n c = keeps among others ∙ one among others n c

pub loses_nothing : (s : Store) (v w : DeskView) → w ≡ v → LosesNone s [] v w
loses_nothing s v w same among others n c = omega (arith, ap (due_of among others) same, c)

-- a line that is too long is no request
no_long_one : (text : List ℕ) → nat_lt 65536 (length text) ≡ true → ¬ IsLine text
no_long_one text long short =
    let no : nat_lt 65536 (length text) ≡ false = grind (arith, nat_tests) in
    false≢true (sym no ∙ long)

text_due : (among : ℤ → Bool) (others : Bool) (s : Store) (text : List ℕ) (v w : DeskView) (n : ℕ) → TakesText s text v w → LineCounts s among others text n → due_of among others w ≡ due_of among others v + n
text_due among others s text v w n t counts = either (nat_lt 65536 (length text)) refl t
  where
    either : (b : Bool) → nat_lt 65536 (length text) ≡ b → MatchBool b (RefusesLong v w) (TakesShort s text v w) → due_of among others w ≡ due_of among others v + n
    either true long r =
        let n_is = counts.none (λ id asks short is. no_long_one text long short) in
        omega (arith, long_due among others v w r, n_is)
    either false less t =
        let short : IsLine text = grind (arith, nat_tests) in
        ⊎_elim
        (λ (l : TakesLine s text v w). let n_is = counts.request l.id l.ask short l.is in omega (arith, taken_due among others s l.id l.ask (one_line_more v) w l.takes, n_is))
        (λ (r : RefusesLine s text v w). let n_is = counts.none (λ id asks fits is. r.none id asks is) in omega (arith, refused_due among others s text v w r, n_is))
        t

pub text_loses : (s : Store) (text : List ℕ) (v w : DeskView) → TakesText s text v w → LosesNone s (text ∷ []) v w
text_loses s text v w t among others n c = omega (arith, text_due among others s text v w c.0 t c.2, c.3, c.4)

pub steps_lose : (s : Store) (texts : List (List ℕ)) (v w : DeskView) → LabelledSteps (TakesText s) texts v w → LosesNone s texts v w
steps_lose s [] v w same among others n c = omega (arith, ap (due_of among others) same, c)
steps_lose s (text ∷ texts) v w steps among others n c =
    omega (arith, text_due among others s text v steps.0 c.0 steps.1 c.2, steps_lose s texts steps.0 w steps.2 among others c.1 c.3, c.4)

-- a request that is answered by a fault is not lost
pub answer_loses : (s : Store) (text : List ℕ) (v w : DeskView) → IsLine text → AnswersLine s text v w → LosesNone s (text ∷ []) v w
answer_loses s text v w short a among others n c =
    let told : due_of among others w ≡ due_of among others (by (one_line_more v) w.pass) + _ = ap (due_of among others) a.only.is ∙ tells_one among others a.id (answer.Fault a.only.fault) (by (one_line_more v) w.pass) in
    let n_is = c.2.request a.id a.ask short a.asked in
    omega (arith, told, n_is, c.3, c.4)

-- ---- a request that meets a fault

-- it is answered so, where nothing but the pass was changed
pub answers_only : (id id' : ℤ) (f : Fault) (v mid w : DeskView) (r : Result Unit Fault) → id' ≡ id → OrMemory f (LearnsOnly v mid)
    → IfErr r (λ g. OrMemory g ((g ≡ f) × (w ≡ tells mid (answer_told id' (answer.Fault f) ∷ [])))) → IfErr r (λ g. OrMemory g (AnswersOnly id v w))
answers_only id id' f v mid w (Ok x) same before told = tt
answers_only id id' f v mid w (Err g) same before (inl is) = inl is
answers_only id id' f v mid w (Err g) same (inl is) (inr told) = inl (told.0 ∙ is)
answers_only id id' f v mid w (Err g) same (inr kept) (inr told) =
    let is : w ≡ tells (by v mid.pass) (answer_told id' (answer.Fault f) ∷ []) = told.1 ∙ ap (λ (d : DeskView). tells d (answer_told id' (answer.Fault f) ∷ [])) kept.is in
    let pass : mid.pass ≡ w.pass = sym (ap (λ (d : DeskView). d.pass) told.1) in
    inr (record {
      fault = f;
      is = subst (λ (i : ℤ). w ≡ tells (by v w.pass) (answer_told i (answer.Fault f) ∷ [])) same (subst (λ (p : PassRoleView). w ≡ tells (by v p) (answer_told id' (answer.Fault f) ∷ [])) pass is);
      sees = subst (SeesMore v.pass) pass kept.sees;
    })

-- the line is answered that it is
pub answers_line : (s : Store) (text : List ℕ) (id id' : ℤ) (asks : RequestBody) (v w : DeskView) → id' ≡ id → IsAskedOf s id asks text → AnswersOnly id' (one_line_more v) w → AnswersLine s text v w
answers_line s text id id' asks v w same is only =
    record { id = id; ask = asks; asked = is; only = subst (λ (i : ℤ). AnswersOnly i (one_line_more v) w) same only }

-- ---- how far it ran

-- the first that waits waits on, behind the others
pub waits_behind : {X : Type 0} (g : X → ℤ × RequestBody) (x : X) (xs items behind : List X) (v w : DeskView) (pass : PassRoleView) → v.waiting ≡ map g xs → xs ≡ x ∷ items
    → behind ≡ items ++ x ∷ [] → w ≡ record v { pass = pass; waiting = map g behind } → SeesMore v.pass pass → GoesBehind v w
waits_behind g x xs items behind v w pass all popped pushed is sees =
    let last : w ≡ record v { pass = pass; waiting = map g items ++ g x ∷ [] } = is ∙ ap (λ (ws : List (ℤ × RequestBody)). record v { pass = pass; waiting = ws }) (ap (map g) pushed ∙ map_push g items x) in
    let same : pass ≡ w.pass = sym (ap (λ (d : DeskView). d.pass) is) in
    record {
      first = g x;
      others = map g items;
      waiting = all ∙ ap (map g) popped;
      is = subst (λ (p : PassRoleView). w ≡ record v { pass = p; waiting = map g items ++ g x ∷ [] }) same last;
      sees = subst (SeesMore v.pass) same sees;
    }

-- as many turns as before, and more
turns_then : (s : Store) (n m : ℕ) (v mid w : DeskView) → Repeats (TriesNext s) n v mid → Repeats (TriesNext s) m mid w → (k : ℕ) × Repeats (TriesNext s) k v w
turns_then s zero m v mid w same later = (m, subst (λ (d : DeskView). Repeats (TriesNext s) m d w) same later)
turns_then s (suc n) m v mid w steps later =
    let rest = turns_then s n m steps.0 mid w steps.2 later in
    (suc rest.0, (steps.0, steps.1, rest.1))

pub rounds_turns : (s : Store) (n : ℕ) (v w : DeskView) → Repeats (Round s) n v w → (k : ℕ) × Repeats (TriesNext s) k v w
rounds_turns s zero v w same = (zero, same)
rounds_turns s (suc n) v w steps =
    let rest = rounds_turns s n steps.0 w steps.2 in
    turns_then s (length v.waiting) rest.0 v steps.0 w steps.1 rest.1

-- turns, and then the store could not go on
pub turns_until : (s : Store) (n : ℕ) (v mid w : DeskView) → Repeats (TriesNext s) n v mid → TriesUntil s mid w → TriesUntil s v w
turns_until s n v mid w turns until =
    let all = turns_then s n until.turns v mid until.met turns until.tries in
    record { turns = all.0; met = until.met; tries = all.1; stops = until.stops }

pub goes_until : (s : Store) (v w : DeskView) → GoesBehind v w → TriesUntil s v w
goes_until s v w goes = record { turns = zero; met = v; tries = refl; stops = inr goes }

pub woken_until : (s : Store) (v mid w : DeskView) → Wakes s v mid → w ≡ by mid w.pass → SeesMore mid.pass w.pass → TriesUntil s v w
woken_until s v mid w wakes is sees =
    let before = rounds_turns s wakes.rounds v wakes.met wakes.before in
    let all = turns_then s before.0 (length wakes.met.waiting) v wakes.met mid before.1 wakes.last in
    record { turns = all.0; met = mid; tries = all.1; stops = inl (record { is = is; sees = sees }) }

-- none is lost on the way there

goes_keep_due : (v w : DeskView) → GoesBehind v w → KeepsDue v w
goes_keep_due v w goes among others =
    ap (due_of among others) goes.is
    ∙ (waits_again among others goes.first.0 goes.first.1 goes.others (count_by (answers_any_of among others) v.told)
    ∙ ap (λ (ws : List (ℤ × RequestBody)). count_by (waits_of among) ws + count_by (answers_any_of among others) v.told) (sym goes.waiting))

learns_keep_due : (v w : DeskView) → LearnsOnly v w → KeepsDue v w
learns_keep_due v w learns among others = ap (due_of among others) learns.is

until_keeps_due : (s : Store) (v w : DeskView) → TriesUntil s v w → KeepsDue v w
until_keeps_due s v w until among others =
    ⊎_elim (λ (learns : LearnsOnly until.met w). learns_keep_due until.met w learns among others) (λ (goes : GoesBehind until.met w). goes_keep_due until.met w goes among others) until.stops
    ∙ repeated_due among others s until.turns v until.met until.tries

behind_loses : (s : Store) (texts : List (List ℕ)) (v w : DeskView) → StopsBehind s texts v w → LosesNone s texts v w
behind_loses s texts v w stops = loses_and_keeps s texts v stops.taken w (steps_lose s texts v stops.taken stops.takes) (until_keeps_due s stops.taken w stops.until)

within_loses : (s : Store) (texts : List (List ℕ)) (v w : DeskView) → StopsWithin s texts v w → LosesNone s texts v w
within_loses s texts v w stops =
    subst (λ (ts : List (List ℕ)). LosesNone s ts v w) (sym stops.are)
    (loses_then s stops.earlier (stops.last ∷ []) v stops.met w (steps_lose s stops.earlier v stops.met stops.takes) (answer_loses s stops.last stops.met w stops.short stops.answers))

stops_lose : (s : Store) (texts : List (List ℕ)) (v w : DeskView) → Stops s texts v w → LosesNone s texts v w
stops_lose s texts v w = ⊎_elim (within_loses s texts v w) (behind_loses s texts v w)

-- ---- texts of which a part came

-- the request of a line met the fault
pub part_answered : (s : Store) (text bytes : List ℕ) (held held' : LinesView) (v mid w : DeskView) (so : TakesSome s text held v mid) → IsCutOff so.rest bytes held' → IsLine bytes → AnswersLine s bytes mid w → TakesPart s text held' v w
part_answered s text bytes held held' v mid w so cut short answers = record {
  texts = so.texts ++ bytes ∷ [];
  rest = cut.rest;
  is = so.is ∙ (ap (λ (r : List ℕ). flat_map line so.texts ++ r) cut.is ∙ (sym (append_assoc (flat_map line so.texts) (line bytes) cut.rest) ∙ ap (λ (r : List ℕ). r ++ cut.rest) (flat_map_more line [] so.texts bytes)));
  unbroken = All-push IsUnbroken so.texts bytes so.unbroken cut.unbroken;
  stands = cut.stands;
  stops = inl (record { earlier = so.texts; last = bytes; are = refl; short = short; met = mid; takes = so.takes; answers = answers });
}

-- all were taken, and then it went on
pub all_part : (s : Store) (text : List ℕ) (held : LinesView) (v mid w : DeskView) → TakesAll s text held v mid → TriesUntil s mid w → TakesPart s text held v w
all_part s text held v mid w t until = record {
  texts = t.texts;
  rest = t.splits.rest;
  is = t.splits.is;
  unbroken = t.splits.unbroken;
  stands = t.splits.stands;
  stops = inr (record { taken = mid; takes = t.takes; until = until });
}

-- what is left at the end of the input
pub rest_taken : (s : Store) (text : List ℕ) (v mid w : DeskView) → TakesLast s text v mid → TriesUntil s mid w → TakesRest s text v w
rest_taken s text v mid w (inl none) until =
    record { texts = []; last = inl (none.0, refl); stops = inr (record { taken = mid; takes = none.1; until = until }) }
rest_taken s text v mid w (inr t) until =
    record { texts = text ∷ []; last = inr (t.0, refl); stops = inr (record { taken = mid; takes = (mid, t.1, refl); until = until }) }

pub rest_answered : (s : Store) (text bytes : List ℕ) (v w : DeskView) → text ≡ bytes → IsLine text → text ≢ [] → AnswersLine s bytes v w → TakesRest s text v w
rest_answered s text bytes v w same short some a = record {
  texts = text ∷ [];
  last = inr (some, refl);
  stops = inl (record { earlier = []; last = text; are = refl; short = short; met = v; takes = refl; answers = subst (λ (t : List ℕ). AnswersLine s t v w) (sym same) a });
}

-- ---- lines that are passed over

-- so far they were, and what is held is the rest
pub record PassesSome (s : Store) (text : List ℕ) (held : LinesView) (v w : DeskView) : Type 0 where
  pub texts : List (List ℕ)
  pub rest : List ℕ
  pub is : text ≡ flat_map line texts ++ rest
  pub unbroken : All IsUnbroken texts
  pub stands : HoldsRestOf held rest
  pub passes : LabelledSteps (PassesText s) texts v w

pub passes_none : (s : Store) (text : List ℕ) (held : LinesView) (v : DeskView) → HoldsRestOf held text → PassesSome s text held v v
passes_none s text held v stands = record { texts = []; rest = text; is = refl; unbroken = All-nil IsUnbroken; stands = stands; passes = refl }

-- one line more
pub passes_more : (s : Store) (text bytes : List ℕ) (held held' : LinesView) (v mid w : DeskView) (so : PassesSome s text held v mid) → IsCutOff so.rest bytes held' → PassesText s bytes mid w → PassesSome s text held' v w
passes_more s text bytes held held' v mid w so cut passes = record {
  texts = so.texts ++ bytes ∷ [];
  rest = cut.rest;
  is = so.is ∙ (ap (λ (r : List ℕ). flat_map line so.texts ++ r) cut.is ∙ (sym (append_assoc (flat_map line so.texts) (line bytes) cut.rest) ∙ ap (λ (r : List ℕ). r ++ cut.rest) (flat_map_more line [] so.texts bytes)));
  unbroken = All-push IsUnbroken so.texts bytes so.unbroken cut.unbroken;
  stands = cut.stands;
  passes = LabelledSteps-push (PassesText s) so.texts bytes v mid w so.passes passes;
}

-- all that have ended
pub passes_all : (s : Store) (text : List ℕ) (held held' : LinesView) (v w : DeskView) (so : PassesSome s text held v w) → IsUnbroken so.rest → HoldsRestOf held' so.rest → PassesAll s text held' v w
passes_all s text held held' v w so last stands = record {
  texts = so.texts;
  splits = record { rest = so.rest; is = so.is; unbroken = so.unbroken; last = last; stands = stands };
  passes = so.passes;
}

pub line_passes : (s : Store) (text : List ℕ) (v w : DeskView) → IsLine text → PassesShort s text v w → PassesText s text v w
line_passes s text v w short passes =
    let is : nat_lt 65536 (length text) ≡ false = grind (arith, nat_tests) in
    subst (λ (b : Bool). MatchBool b (RefusesLong v w) (PassesShort s text v w)) (sym is) passes

pub long_passes : (s : Store) (text : List ℕ) (v w : DeskView) → IsLongLine text → RefusesLong v w → PassesText s text v w
long_passes s text v w long refuses =
    let is : nat_lt 65536 (length text) ≡ true = grind (arith, nat_tests) in
    subst (λ (b : Bool). MatchBool b (RefusesLong v w) (PassesShort s text v w)) (sym is) refuses

-- none is lost
passed_due : (s : Store) (text : List ℕ) (v w : DeskView) → PassesText s text v w → LosesNone s (text ∷ []) v w
passed_due s text v w t = either (nat_lt 65536 (length text)) refl t
  where
    either : (b : Bool) → nat_lt 65536 (length text) ≡ b → MatchBool b (RefusesLong v w) (PassesShort s text v w) → LosesNone s (text ∷ []) v w
    either true long r = text_loses s text v w (subst (λ (b : Bool). MatchBool b (RefusesLong v w) (TakesShort s text v w)) (sym long) r)
    either false less t =
        let short : IsLine text = grind (arith, nat_tests) in
        ⊎_elim
        (λ (a : AnswersLine s text v w). answer_loses s text v w short a)
        (λ (r : RefusesLine s text v w). text_loses s text v w (short_text s text v w short (inr r)))
        t

passes_lose : (s : Store) (texts : List (List ℕ)) (v w : DeskView) → LabelledSteps (PassesText s) texts v w → LosesNone s texts v w
passes_lose s [] v w same = loses_nothing s v w same
passes_lose s (text ∷ texts) v w steps = loses_then s (text ∷ []) texts v steps.0 w (passed_due s text v steps.0 steps.1) (passes_lose s texts steps.0 w steps.2)

-- ---- what is told in the end

pub tells_behind : (s : Store) (texts : List (List ℕ)) (mid over shut w : DeskView) (f : Fault) (d : Option ℕ) (all given : List Told) (prints : List ℕ → Type 0) → LabelledSteps (PassesText s) texts mid over
    → shut ≡ with_closed over → all ≡ shut.told → SeesMore shut.pass w.pass → given ≡ map (told_last d f) all → prints (told_lines given) → d ≡ Some (count s.start w.pass.seen) → TellsBehind s texts mid f w prints
tells_behind s texts mid over shut w f d all given prints passes closes told sees is printed durable =
    let whole : all ≡ (with_closed over).told = told ∙ ap (λ (v : DeskView). v.told) closes in
    record {
      over = over;
      passes = passes;
      sees = subst (λ (p : PassRoleView). SeesMore p w.pass) (ap (λ (v : DeskView). v.pass) closes) sees;
      all = given;
      told = subst (λ (o : Option ℕ). given ≡ map (told_last o f) (with_closed over).told) durable (is ∙ ap (map (told_last d f)) whole);
      each = λ among others n c.
          ap (count_by (answers_any_of among others)) is
          ∙ (last_count among others d f all
          ∙ (ap (count_by (answers_any_of among others)) whole
          ∙ (closed_due among others over ∙ passes_lose s texts mid over passes among others n c)));
      printed = printed;
    }

each_then : (s : Store) (xs ys : List (List ℕ)) (v mid w : DeskView) (f : Fault) (prints : List ℕ → Type 0) → Stops s xs v mid → TellsBehind s ys mid f w prints → TellsEach s (xs ++ ys) v f w prints
each_then s xs ys v mid w f prints stops t = record {
  began = xs;
  later = ys;
  are = refl;
  mid = mid;
  stops = stops;
  tells = t;
  each = λ among others n c.
      let parts = counts_split s among others xs ys n c in
      omega (arith, t.each among others parts.1 parts.3, stops_lose s xs v mid stops among others parts.0 parts.2, parts.4);
}

split_then : (s : Store) (text : List ℕ) (held held' : LinesView) (v mid : DeskView) (so : TakesPart s text held v mid) (ys : List (List ℕ)) → Splits so.rest ys held' → Splits text (so.texts ++ ys) held'
split_then s text held held' v mid so ys sp = record {
  rest = sp.rest;
  is = so.is ∙ (ap (λ (r : List ℕ). flat_map line so.texts ++ r) sp.is ∙ (sym (append_assoc (flat_map line so.texts) (flat_map line ys) sp.rest) ∙ ap (λ (r : List ℕ). r ++ sp.rest) (sym (flat_map-append line so.texts ys))));
  unbroken = All-append IsUnbroken so.texts ys so.unbroken sp.unbroken;
  last = sp.last;
  stands = sp.stands;
}

-- where a part of a text came before
pub part_then : (s : Store) (text : List ℕ) (held held' : LinesView) (Ran : DeskView → Type 0) (v mid w : DeskView) (prints : List ℕ → Type 0) (e : DeskFailure) (so : TakesPart s text held v mid)
    → TellsWhy s (λ (ys : List (List ℕ)). Splits so.rest ys held') mid w prints e → TellsAll s (λ (xs : List (List ℕ)). Splits text xs held') Ran v w prints e
part_then s text held held' Ran v mid w prints Output so (inr want) = inr (inr want)
part_then s text held held' Ran v mid w prints Output so (inl why) = inr (inl (record {
  fault = why.fault;
  other = why.other;
  texts = so.texts ++ why.texts;
  lines = split_then s text held held' v mid so why.texts why.lines;
  tells = each_then s so.texts why.texts v mid w why.fault (PrintsBeginning prints) so.stops why.tells;
}))
part_then s text held held' Ran v mid w prints (failure.Fault f) so (inl is) = inl is
part_then s text held held' Ran v mid w prints (failure.Fault f) so (inr t) =
    inr (so.texts ++ t.0, split_then s text held held' v mid so t.0 t.1, each_then s so.texts t.0 v mid w f prints so.stops t.2)

-- nothing is left that has no line
none_split : (ys : List (List ℕ)) (rest : List ℕ) → [] ≡ flat_map line ys ++ rest → ys ≡ []
none_split [] rest is = refl
none_split (y ∷ ys) rest is =
    let long : length (flat_map line (y ∷ ys) ++ rest) ≡ length (line y ++ flat_map line ys) + length rest = length-append (line y ++ flat_map line ys) rest in
    let head : length (line y ++ flat_map line ys) ≡ length (line y) + length (flat_map line ys) = length-append (line y) (flat_map line ys) in
    let last : length (line y) ≡ length y + 1 = length-append y (10 ∷ []) in
    let none : 0 ≡ length (flat_map line (y ∷ ys) ++ rest) = ap length is in
    absurd (omega (arith, long, head, last, none))

-- nothing came behind the rest
rest_each : (s : Store) (text : List ℕ) (held : LinesView) (v mid w : DeskView) (f : Fault) (prints : List ℕ → Type 0) (so : TakesRest s text v mid) (ys : List (List ℕ)) → Splits [] ys held
    → TellsBehind s ys mid f w prints → TellsEach s so.texts v f w prints
rest_each s text held v mid w f prints so ys splits t =
    let none : TellsBehind s [] mid f w prints = subst (λ (ys : List (List ℕ)). TellsBehind s ys mid f w prints) (none_split ys splits.rest splits.is) t in
    subst (λ (xs : List (List ℕ)). TellsEach s xs v f w prints) (append-nil so.texts) (each_then s so.texts [] v mid w f prints so.stops none)

-- where the rest came before
pub rest_then : (s : Store) (text : List ℕ) (held : LinesView) (Ran : DeskView → Type 0) (v mid w : DeskView) (prints : List ℕ → Type 0) (e : DeskFailure) → TakesRest s text v mid
    → TellsWhy s (λ (ys : List (List ℕ)). Splits [] ys held) mid w prints e → TellsAll s (IsLast text) Ran v w prints e
rest_then s text held Ran v mid w prints Output so (inr want) = inr (inr want)
rest_then s text held Ran v mid w prints Output so (inl why) = inr (inl (record {
  fault = why.fault;
  other = why.other;
  texts = so.texts;
  lines = so.last;
  tells = rest_each s text held v mid w why.fault (PrintsBeginning prints) so why.texts why.lines why.tells;
}))
rest_then s text held Ran v mid w prints (failure.Fault f) so (inl is) = inl is
rest_then s text held Ran v mid w prints (failure.Fault f) so (inr t) = inr (so.texts, so.last, rest_each s text held v mid w f prints so t.0 t.1 t.2)

-- all ran, and what is told could not be printed
unprinted_all : (s : Store) (Are : List (List ℕ) → Type 0) (Ran : DeskView → Type 0) (v ran w : DeskView) (prints : List ℕ → Type 0) (e : DeskFailure) → Ran ran → w.pass ≡ ran.pass → IsUnprinted prints ran.told e → TellsAll s Are Ran v w prints e
unprinted_all s Are Ran v ran w prints Output runs same is = inl (ran, runs, sym same, is)
unprinted_all s Are Ran v ran w prints (failure.Fault f) runs same is = inl is

-- why the store cannot go on could not be printed
pub unprinted_why : (s : Store) (Are : List (List ℕ) → Type 0) (mid w : DeskView) (prints : List ℕ → Type 0) (texts : List (List ℕ)) (fault : Fault) (all : List Told) (e : DeskFailure) → Are texts
    → (PrintsPart prints all → (fault ≡ Memory) ⊎ ((fault ≢ Memory) × TellsBehind s texts mid fault w (PrintsBeginning prints))) → (fault ≡ Memory → All (TellsOnly fault) all) → IsUnprinted prints all e → TellsWhy s Are mid w prints e
unprinted_why s Are mid w prints texts fault all Output are each only is = ⊎_elim
    (λ (m : fault ≡ Memory). inr (all, subst (λ (f : Fault). All (TellsOnly f) all) m (only m), is))
    (λ (t : (fault ≢ Memory) × TellsBehind s texts mid fault w (PrintsBeginning prints)). inl (record { fault = fault; other = t.0; texts = texts; lines = are; tells = t.1 }))
    (each is)
unprinted_why s Are mid w prints texts fault all (failure.Fault f) are each only is = inl is

-- that memory did not suffice could not be printed
pub unprinted_want : (fault : Fault) (all : List Told) (prints : List ℕ → Type 0) (e : DeskFailure) → fault ≡ Memory → All (TellsOnly fault) all → IsUnprinted prints all e → IsMemoryOrOutput prints e
unprinted_want fault all prints Output wanting only is = (all, subst (λ (f : Fault). All (TellsOnly f) all) wanting only, is)
unprinted_want fault all prints (failure.Fault f) wanting only is = is

pub wanting_all : (s : Store) (Are : List (List ℕ) → Type 0) (Ran : DeskView → Type 0) (v w : DeskView) (prints : List ℕ → Type 0) (e : DeskFailure) → IsMemoryOrOutput prints e → TellsAll s Are Ran v w prints e
wanting_all s Are Ran v w prints Output is = inr (inr is)
wanting_all s Are Ran v w prints (failure.Fault f) is = inl is

-- a line that came behind the fault
pub passed_over : (s : Store) (text : List ℕ) (id id' : ℤ) (asks : RequestBody) (f : Fault) (v w : DeskView) → id' ≡ id → IsAskedOf s id asks text → w ≡ tells (one_line_more v) (answer_told id' (answer.Fault f) ∷ []) → AnswersLine s text v w
passed_over s text id id' asks f v w same asked is =
    let told : w ≡ tells (by (one_line_more v) v.pass) (answer_told id' (answer.Fault f) ∷ []) = is in
    let pass : v.pass ≡ w.pass = sym (ap (λ (d : DeskView). d.pass) is) in
    answers_line s text id id' asks v w same asked (record {
      fault = f;
      is = subst (λ (p : PassRoleView). w ≡ tells (by (one_line_more v) p) (answer_told id' (answer.Fault f) ∷ [])) pass told;
      sees = sees_as v.pass w.pass (sym pass);
    })

pub unprinted_texts : {X : Type 0} (Is : List ℕ → Type 0) (s : Store) (Are : List ℕ → List (List ℕ) → Type 0) (Ran : List ℕ → DeskView → Type 0) (v ran w : DeskView) (prints : List ℕ → Type 0) (r : Result X DeskFailure)
    → ((text : List ℕ) → Is text → Ran text ran) → w.pass ≡ ran.pass → IfErr r (IsUnprinted prints ran.told)
    → IfErr r (λ e. (text : List ℕ) → Is text → TellsAll s (Are text) (Ran text) v w prints e)
unprinted_texts Is s Are Ran v ran w prints (Ok x) runs same is = tt
unprinted_texts Is s Are Ran v ran w prints (Err e) runs same is = λ text so. unprinted_all s (Are text) (Ran text) v ran w prints e (runs text so) same is

-- a piece whose lines met a fault
pub piece_fails : {X : Type 0} {Is : List ℕ → Type 0} (r : Result X DeskFailure) (s : Store) (piece : List ℕ) (held held' : LinesView) (Ran : List ℕ → DeskView → Type 0) (v mid w : DeskView) (prints : List ℕ → Type 0) (f : Fault)
    → ((text : List ℕ) → Is text → OrMemory f (TakesPart s (text ++ piece) held v mid)) → (f ≡ Memory → IfErr r (IsMemoryOrOutput prints))
    → IfErr r (λ e. (text : List ℕ) → HoldsRestOf held text → TellsWhy s (λ (ys : List (List ℕ)). Splits text ys held') mid w prints e)
    → IfErr r (λ e. (text : List ℕ) → Is text → TellsAll s (λ (xs : List (List ℕ)). Splits (text ++ piece) xs held') (Ran text) v w prints e)
piece_fails (Ok x) s piece held held' Ran v mid w prints f before wanting told = tt
piece_fails (Err e) s piece held held' Ran v mid w prints f before wanting told =
    λ text is.
    ⊎_elim
    (λ (m : f ≡ Memory). wanting_all s (λ (xs : List (List ℕ)). Splits (text ++ piece) xs held') (Ran text) v w prints e (wanting m))
    (λ (so : TakesPart s (text ++ piece) held v mid). part_then s (text ++ piece) held held' (Ran text) v mid w prints e so (told so.rest so.stands))
    (before text is)

-- the end, where that met one
pub end_fails : {X : Type 0} {Is : List ℕ → Type 0} (r : Result X DeskFailure) (s : Store) (held held' : LinesView) (Ran : List ℕ → DeskView → Type 0) (v mid w : DeskView) (prints : List ℕ → Type 0) (f : Fault)
    → ((text : List ℕ) → Is text → OrMemory f (TakesRest s text v mid)) → HoldsRestOf held [] → (f ≡ Memory → IfErr r (IsMemoryOrOutput prints))
    → IfErr r (λ e. (text : List ℕ) → HoldsRestOf held text → TellsWhy s (λ (ys : List (List ℕ)). Splits text ys held') mid w prints e)
    → IfErr r (λ e. (text : List ℕ) → Is text → TellsAll s (IsLast text) (Ran text) v w prints e)
end_fails (Ok x) s held held' Ran v mid w prints f before none wanting told = tt
end_fails (Err e) s held held' Ran v mid w prints f before none wanting told =
    λ text is.
    ⊎_elim
    (λ (m : f ≡ Memory). wanting_all s (IsLast text) (Ran text) v w prints e (wanting m))
    (λ (so : TakesRest s text v mid). rest_then s text held' (Ran text) v mid w prints e so (told [] none))
    (before text is)
