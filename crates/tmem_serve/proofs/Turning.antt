-- What was served in turns, and what is served then.
use Rattle.std.proofs.Common.{◌≡◌, inl, inr, ℕ, List, [], ◌∷◌, ◌++◌, Option, Some, None, Result, Ok, Err, refl, sym, ap, ◌∙◌, append_assoc, append-nil, subst, arith}
use Rattle.std.specs.Prelude.{IfErr, IsErrAnd}
use Rattle.std.specs.Io.KnownBytes.{Appends, Consumes, Keeps}
use Rattle.tmem_fault.specs.declared.fault.Fault.TheVariants.{Memory}
use Rattle.tmem_lines.specs.Lines.{HoldsRestOf}
use Rattle.tmem_lines.specs.Views.{LinesView}
use Rattle.tmem_desk.specs.Asking.{Store}
use Rattle.tmem_desk.specs.Desks.{DeskView}
use Rattle.tmem_desk.specs.Failing.{EndsBy, PrintsPart}
use Rattle.tmem_desk.specs.Serving.{RunsEnd, ServesPiece, ServesEnd}
use Rattle.tmem_desk.specs.Told.{told_lines}
use Rattle.tmem_desk.specs.declared.told.Told.{Told}
use Rattle.tmem_desk.specs.declared.failure.DeskFailure.{DeskFailure}
use Rattle.tmem_desk.specs.declared.failure.DeskFailure.TheVariants as failure
use Rattle.tmem_desk.specs.Serving.{with_closed}
use Rattle.tmem_serve.specs.Turns.{InputTurn, read_in, printed_in, ServesTurns, ServesInput, StopsInput, TellsStop}

-- what holds of a failure holds of a result that has it
pub err_is : {T : Type 0} (P : DeskFailure → Type 0) (r : Result T DeskFailure) (e : DeskFailure) → IsErrAnd r (λ f. f ≡ e) → P e → IfErr r P
err_is P (Ok x) e is so = tt
err_is P (Err f) e is so = subst P (sym is) so

-- and what follows from what is known of one
pub err_more : {T : Type 0} (P Q : DeskFailure → Type 0) (r : Result T DeskFailure) → ((f : DeskFailure) → P f → Q f) → IfErr r P → IfErr r Q
err_more P Q (Ok x) more so = tt
err_more P Q (Err f) more so = more f so

-- known bytes, none of which is read or written
pub Consumes-nil : (a : Option (List ℕ)) → Consumes a a []
Consumes-nil None = tt
Consumes-nil (Some x) = refl

pub Appends-nil : (a : Option (List ℕ)) → Appends a a []
Appends-nil None = tt
Appends-nil (Some x) = sym (append-nil x)

-- some, and then others
pub Consumes-then : (a b c : Option (List ℕ)) (first second : List ℕ) → Consumes a b first → Consumes b c second → Consumes a c (first ++ second)
Consumes-then None b c first second one other = tt
Consumes-then (Some x) None c first second one other = absurd one
Consumes-then (Some x) (Some y) None first second one other = absurd other
Consumes-then (Some x) (Some y) (Some z) first second one other = one ∙ ap (λ l. first ++ l) other ∙ sym (append_assoc first second z)

pub Appends-then : (a b c : Option (List ℕ)) (first second : List ℕ) → Appends a b first → Appends b c second → Appends a c (first ++ second)
Appends-then None b c first second one other = tt
Appends-then (Some x) None c first second one other = absurd one
Appends-then (Some x) (Some y) None first second one other = absurd other
Appends-then (Some x) (Some y) (Some z) first second one other = other ∙ ap (λ l. l ++ second) one ∙ append_assoc x first second

-- some, and then none
pub Consumes-kept : (a b c : Option (List ℕ)) (bytes : List ℕ) → Consumes a b bytes → Keeps b c → Consumes a c bytes
Consumes-kept None b c bytes one kept = tt
Consumes-kept (Some x) None c bytes one kept = absurd one
Consumes-kept (Some x) (Some y) None bytes one kept = absurd kept
Consumes-kept (Some x) (Some y) (Some z) bytes one kept = one ∙ ap (λ l. bytes ++ l) (sym kept)

pub Appends-kept : (a b c : Option (List ℕ)) (bytes : List ℕ) → Appends a b bytes → Keeps b c → Appends a c bytes
Appends-kept None b c bytes one kept = tt
Appends-kept (Some x) None c bytes one kept = absurd one
Appends-kept (Some x) (Some y) None bytes one kept = absurd kept
Appends-kept (Some x) (Some y) (Some z) bytes one kept = kept ∙ one

-- all of it was printed
whole_part : (a b c : Option (List ℕ)) (all : List Told) → Appends a b (told_lines all) → Keeps b c → PrintsPart (Appends a c) all
whole_part a b c all one kept = (told_lines all, [], sym (append-nil (told_lines all)), Appends-kept a b c (told_lines all) one kept)

-- none, and none again
pub Keeps-refl : (a : Option (List ℕ)) → Keeps a a
Keeps-refl None = tt
Keeps-refl (Some x) = refl

pub Keeps-then : (a b c : Option (List ℕ)) → Keeps a b → Keeps b c → Keeps a c
Keeps-then None b c one other = tt
Keeps-then (Some x) None c one other = absurd one
Keeps-then (Some x) (Some y) None one other = absurd other
Keeps-then (Some x) (Some y) (Some z) one other = other ∙ one

-- From v to w some turns were served, and what is held represents what is left of the last line.
pub record HasServed (s : Store) (v w : DeskView) (held : LinesView) (unread rest before after : Option (List ℕ)) : Type 0 where
  pub turns : List InputTurn
  pub left : List ℕ
  pub served : ServesTurns s turns v w left
  pub stands : HoldsRestOf held left
  pub read : Consumes unread rest (read_in turns)
  pub printed : Appends before after (printed_in turns)

module _ (s : Store) (v : DeskView) (unread before : Option (List ℕ)) where
  -- none yet
  pub none_served : (held : LinesView) → HoldsRestOf held [] → HasServed s v v held unread unread before before
  none_served held stands = record { turns = []; left = []; served = (refl, refl); stands = stands; read = Consumes-nil unread; printed = Appends-nil before }

  -- one more
  pub one_served : (w w' : DeskView) (held held' : LinesView) (rest rest' after printed flushed : Option (List ℕ)) (piece : List ℕ) → HasServed s v w held unread rest before after
      → Consumes rest rest' piece
      → ((text : List ℕ) → HoldsRestOf held text → ServesPiece s (text ++ piece) held' w w' (Appends after printed))
      → Keeps printed flushed → HasServed s v w' held' unread rest' before flushed
  one_served w w' held held' rest rest' after printed flushed piece so read serves kept =
      let of = serves so.left so.stands in
      let answers = told_lines of.ran.told in
      let same : ServesPiece s (so.left ++ piece) held' w w' (λ text. text ≡ answers) = record { ran = of.ran; runs = of.runs; printed = refl; is = of.is } in
      let turn : InputTurn = record { piece = piece; answers = answers } in
      record {
        turns = turn ∷ so.turns;
        left = of.runs.takes.splits.rest;
        served = (w, so.left, so.served, record { held = held'; served = same; rest = refl });
        stands = of.runs.takes.splits.stands;
        read = Consumes-then unread rest rest' (read_in so.turns) piece so.read read;
        printed = Appends-kept before printed flushed (printed_in so.turns ++ answers) (Appends-then before after printed (printed_in so.turns) answers so.printed of.printed) kept;
      }

  -- and then the end
  pub all_served : (w w' : DeskView) (held : LinesView) (rest rest' after printed flushed : Option (List ℕ)) → HasServed s v w held unread rest before after
      → Consumes rest rest' [] → ((text : List ℕ) → HoldsRestOf held text → ServesEnd s text w w' (Appends after printed))
      → Keeps printed flushed → ServesInput s v unread rest' before flushed
  all_served w w' held rest rest' after printed flushed so read serves kept =
      let of = serves so.left so.stands in
      let last = told_lines (with_closed of.ran).told in
      let same : ServesEnd s so.left w w' (λ text. text ≡ last) = record { ran = of.ran; runs = of.runs; printed = refl; is = of.is } in
      record {
        turns = so.turns;
        met = w;
        left = so.left;
        served = so.served;
        last = last;
        w = w';
        end = same;
        read = subst (Consumes unread rest') (append-nil (read_in so.turns)) (Consumes-then unread rest rest' (read_in so.turns) [] so.read read);
        printed = Appends-kept before printed flushed (printed_in so.turns ++ last) (Appends-then before after printed (printed_in so.turns) last so.printed of.printed) kept;
      }

  -- or it ends early
  pub stopped : (w : DeskView) (held : LinesView) (rest rest' after flushed : Option (List ℕ)) (piece : List ℕ) (f : DeskFailure) (so : HasServed s v w held unread rest before after)
      → Consumes rest rest' piece → EndsBy (Appends after flushed) f → TellsStop s so.left piece w (Appends after flushed) f → StopsInput s v unread rest' before flushed f
  stopped w held rest rest' after flushed piece f so read ends told = record {
    turns = so.turns;
    met = w;
    left = so.left;
    served = so.served;
    piece = piece;
    read = Consumes-then unread rest rest' (read_in so.turns) piece so.read read;
    between = after;
    printed = so.printed;
    ends = ends;
    told = told;
  }

  -- where what was printed could not be flushed
  unflushed : (w : DeskView) (held : LinesView) (rest rest' after flushed : Option (List ℕ)) (piece : List ℕ) (f : DeskFailure) (so : HasServed s v w held unread rest before after)
      → Consumes rest rest' piece → f ≡ failure.Output → TellsStop s so.left piece w (Appends after flushed) failure.Output → StopsInput s v unread rest' before flushed f
  unflushed w held rest rest' after flushed piece f so read is told =
      stopped w held rest rest' after flushed piece f so read (subst (EndsBy (Appends after flushed)) (sym is) tt) (subst (TellsStop s so.left piece w (Appends after flushed)) (sym is) told)

  -- of a piece
  pub piece_unflushed : (w w' : DeskView) (held held' : LinesView) (rest rest' after printed flushed : Option (List ℕ)) (piece : List ℕ) (f : DeskFailure) → HasServed s v w held unread rest before after
      → Consumes rest rest' piece
      → ((text : List ℕ) → HoldsRestOf held text → ServesPiece s (text ++ piece) held' w w' (Appends after printed))
      → Keeps printed flushed → f ≡ failure.Output → StopsInput s v unread rest' before flushed f
  piece_unflushed w w' held held' rest rest' after printed flushed piece f so read serves kept is =
      let of = serves so.left so.stands in
      unflushed w held rest rest' after flushed piece f so read is (inl (held', w', inl (of.ran, of.runs, sym (ap (λ (d : DeskView). d.pass) of.is), whole_part after printed flushed of.ran.told of.printed kept)))

  -- and of the end
  pub end_unflushed : (w w' : DeskView) (held : LinesView) (rest rest' after printed flushed : Option (List ℕ)) (f : DeskFailure) → HasServed s v w held unread rest before after
      → Consumes rest rest' [] → ((text : List ℕ) → HoldsRestOf held text → ServesEnd s text w w' (Appends after printed))
      → Keeps printed flushed → f ≡ failure.Output → StopsInput s v unread rest' before flushed f
  end_unflushed w w' held rest rest' after printed flushed f so read serves kept is =
      let of = serves so.left so.stands in
      let ran : RunsEnd s so.left w (with_closed of.ran) = record { ran = of.ran; runs = of.runs; is = refl } in
      unflushed w held rest rest' after flushed [] f so read is (inr (w', inl (with_closed of.ran, ran, sym (ap (λ (d : DeskView). d.pass) of.is), whole_part after printed flushed (with_closed of.ran).told of.printed kept)))

  -- where there was no memory to begin with
  pub not_begun : (held : LinesView) → HoldsRestOf held [] → StopsInput s v unread unread before before (failure.Fault Memory)
  not_begun held stands =
      stopped v held unread unread before before [] (failure.Fault Memory) (none_served held stands) (Consumes-nil unread) ([], (λ memory k one within. absurd (omega (arith, within))), Appends-nil before) (inr (v, inl refl))
