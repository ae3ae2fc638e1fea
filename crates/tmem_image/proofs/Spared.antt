-- What a crash leaves of the spare copy, while an image is written to it.
use Rattle.std.proofs.Common.{◌≡◌, ◌⊎◌, inl, inr, ⊎_elim, ℕ, ℤ, ◌+◌, ◌-◌, ◌*◌, ◌≤◌, ◌<◌, List, [], ◌∷◌, ◌++◌, length, take, drop, refl, sym, ◌∙◌, ap, subst, arith, append_assoc}
use Rattle.std.specs.Prelude.{Result, Ok, Err, IfErr, MatchResult, slice_range}
use Rattle.tmem_disk.specs.Disk.{DeviceView, IsDevice, LeavesOnly, Elapses, Rewritten, SameOutside}
use Rattle.tmem_fault.specs.declared.fault.Fault.{Fault}
use Rattle.tmem_fault.specs.declared.fault.Fault.TheVariants.{Device, Unknown}
use Rattle.tmem_disk.proofs.Laws.{SameOutside-refl, SameOutside-trans, SameOutside-wider, slice_range-after, LeavesOnly-moment, AtEachMoment-more, AtEachMoment-elapsed, AtEachMoment-trans, Elapses-more, either_time}
use Rattle.tmem_gate.specs.Gate.{IsOpenAt, IsClosed, StandsClosed, HasBody}
use Rattle.tmem_gate.specs.Calls.{Uses, failures_after, OnlyReads, WritesWithin, MadeBy}
use Rattle.tmem_gate.specs.Cells.{LeftClosed, LeftOpen}
use Rattle.tmem_gate.specs.Changes.{ChangeOutcome, WasMade, NotMade, InDoubt, NotBegun, call_outcome, Becomes, Meanwhile, Puts}
use Rattle.tmem_gate.proofs.Laws.{gate_cases, whole_after, closed_before, by_look, WritesWithin-wider, WritesWithin-trans}
use Rattle.tmem_record.specs.Stale.{IsClosedOrStale}
use Rattle.tmem_effect.specs.State.{State}
use Rattle.tmem_record.specs.Layout.{pages_of, image_at, image_size, end_at}
use Rattle.tmem_record.specs.Spelling.{number_bytes}
use Rattle.tmem_record.specs.StandsAt.{StandsAt}
use Rattle.tmem_record.proofs.Laws.{both_parts, between_is}
use Rattle.tmem_effect.specs.Names.{AreRegistered}
use Rattle.tmem_state.specs.Versions.{version_byte}
use Rattle.tmem_state.specs.declared.version.Version.{Version}
use Rattle.tmem_state.specs.declared.version.Version.TheVariants.{Two}
use Rattle.tmem_image.proofs.Lengths.{length-header_body, length-pages_body}
use Rattle.tmem_image.proofs.Loading.{copy_within}
use Rattle.tmem_image.specs.Spelling.{names_body, header_body, pages_body, image_body, IsImage}
use Rattle.tmem_image.specs.Image.{IsGeneration}
use Rattle.tmem_image.specs.Spare.{ImagePlaced, GateIsSynced, Left, Spares, WithoutImage, WithImage}

-- an open gate that is written over leaves the cell as stale as it was
stale_kept : (at generation : ℕ) (b c : List ℕ) → IsOpenAt at b → SameOutside at 1 b c → IsClosedOrStale generation at b → IsClosedOrStale generation at c
stale_kept at generation b c opened same stale = ⊎_elim (λ closed. absurd (closed.not_open opened)) (λ lesser. ⊎_elim (λ shut. inl shut) (λ over. inr (lesser.0, lesser.1, over)) (whole_after at _ b c lesser.2.body same)) stale

Left-refl : (at n : ℕ) (c : List ℕ) → Left at n c c
Left-refl at n c = record { elsewhere = SameOutside-refl at n c; stale = λ generation stale. stale }

-- a call, and one after it
pub Uses-trans : {S T : Type 0} (old mid new : DeviceView) (x : S) (r : Result T Fault) → Uses old mid (Ok x) → Uses mid new r → Uses old new r
Uses-trans old mid new x r first second = record {
  capacity = second.capacity ∙ first.capacity;
  model = λ k. first.model (second.model k);
  failures = subst (λ (n : ℕ). MatchResult r (λ _. new.failures ≡ n) (λ f. new.failures ≡ failures_after f n)) first.failures second.failures;
}

-- the parts of a copy lie within the device
module _ (vars slots copy at capacity : ℕ) (offset : at ≡ image_at vars copy) (one : copy ≤ 1) (room : end_at vars slots ≤ capacity) where
  whole : at + image_size vars ≤ capacity
  whole = copy_within vars slots copy at (image_size vars) capacity offset refl one room

  pub gate_within : at < capacity
  gate_within = omega (arith, whole)

  pub pages_within : (now : ℕ) → now ≡ capacity → at + 2048 + 512 * pages_of vars ≤ now
  pages_within now same = omega (arith, whole)

  pub header_within : (header now : ℕ) → header ≡ 2047 → now ≡ capacity → at + 1 + header ≤ now
  header_within header now long same = omega (arith, whole)

-- a gate is closed that reads open
module _ (old shut : DeviceView) (at : ℕ) (device : IsDevice old) (settled : GateIsSynced at old) (model : shut.keeps_model → old.keeps_model) (within : WritesWithin at 1 old shut) (idle : IsClosed at old.seen → OnlyReads old shut) where
  shut_made : old.keeps_model → IsOpenAt at old.seen → (c : List ℕ) → Rewritten at 1 old c → MadeBy (Left at 1) old c
  shut_made k opened c from = (from.0, from.1, record { elsewhere = from.2; stale = λ generation. stale_kept at generation from.0 c (settled.each k from.0 from.1 ∙ opened) from.2 })

  as_before : (c : List ℕ) → old.may_leave c → MadeBy (Left at 1) old c
  as_before c left = (c, left, Left-refl at 1 c)

  shut_time : Elapses old shut (MadeBy (Left at 1) old)
  shut_time = ⊎_elim
      (λ opened. Elapses-more old shut _ _ within.time (λ k. shut_made (model k) opened))
      (λ closed. Elapses-more old shut _ _ (idle closed).time (λ k. as_before))
      (gate_cases at old.seen)

  pub while_shut : Spares at 1 old shut
  while_shut = record { within = within; during = AtEachMoment-elapsed old shut _ _ device model shut_time (record { each = λ k. as_before }) (λ k c it. it) }

module _ (at n : ℕ) (old mid : DeviceView) (device : IsDevice mid) (spares : Spares at n old mid) where
  spared_now : LeavesOnly mid (MadeBy (Left at n) old)
  spared_now = LeavesOnly-moment old mid _ device spares.within.time.later spares.during

  -- and a call follows that writes nothing
  pub Spares-read_only : (new : DeviceView) → (new.keeps_model → mid.keeps_model) → OnlyReads mid new → Spares at n old new
  Spares-read_only new model reads_only = record {
    within = WritesWithin-trans at n old mid new model spares.within (by_look at n mid new device model reads_only);
    during = AtEachMoment-trans old mid new _ _ model spares.within.time.later spares.during reads_only.time (λ k. spared_now.each (model k));
  }

  -- or one that writes behind the gate, which stands closed
  module _ (paged : DeviceView) (some : 1 ≤ n) (closed : StandsClosed at mid) (writes : WritesWithin (at + 1) (n - 1) mid paged) (model : paged.keeps_model → mid.keeps_model) where
    page_made : mid.keeps_model → (c : List ℕ) → Rewritten (at + 1) (n - 1) mid c → MadeBy (Left at n) old c
    page_made k c from =
        let before = spared_now.each k from.0 from.1 in
        let gate = closed_before (at + 1) (n - 1) at from.0 c from.2 (omega arith) (closed.each k from.0 from.1) in (
          before.0,
          before.1,
          record {
            elsewhere = SameOutside-trans at n before.0 from.0 c before.2.elsewhere (SameOutside-wider (at + 1) (n - 1) at n from.0 c (omega arith) (omega (arith, some)) from.2);
            stale = λ generation stale. inl gate;
          },
        )

    Spares-paged : Spares at n old paged
    Spares-paged = record {
      within = WritesWithin-trans at n old mid paged model spares.within (WritesWithin-wider (at + 1) (n - 1) at n (omega arith) (omega (arith, some)) mid paged writes);
      during = AtEachMoment-trans old mid paged _ _ model spares.within.time.later spares.during writes.time (λ k. page_made (model k));
    }

    still_closed : StandsClosed at paged
    still_closed = record { each = λ k c left. let from = writes.crash.each k c left in closed_before (at + 1) (n - 1) at from.0 c from.2 (omega arith) (closed.each (model k) from.0 from.1) }

-- over a wider range
Spares-wider : (at n : ℕ) (old new : DeviceView) → 1 ≤ n → Spares at 1 old new → Spares at n old new
Spares-wider at n old new some spares = record {
  within = WritesWithin-wider at 1 at n (omega arith) (omega (arith, some)) old new spares.within;
  during = AtEachMoment-more old new _ _ spares.during (λ k c from. (from.0, from.1, record { elsewhere = SameOutside-wider at 1 at n from.0 c (omega arith) (omega (arith, some)) from.2.elsewhere; stale = from.2.stale }));
}

-- the copy of an image once its gate is closed, and then once its pages are written too
module _ (p : ImagePlaced) (at : ℕ) (offset : at ≡ image_at p.vars p.copy) (old mid : DeviceView) (spares : Spares at 1 old mid) where
  pub once_shut : Spares (image_at p.vars p.copy) (image_size p.vars) old mid
  once_shut = subst (λ (k : ℕ). Spares k (image_size p.vars) old mid) offset (Spares-wider at (image_size p.vars) old mid (omega arith) spares)

  module _ (paged : DeviceView) (device : IsDevice mid) (closed : StandsClosed at mid) (writes : WritesWithin (at + 2048) (512 * pages_of p.vars) mid paged) (model : paged.keeps_model → mid.keeps_model) where
    behind : WritesWithin (at + 1) (image_size p.vars - 1) mid paged
    behind = WritesWithin-wider (at + 2048) (512 * pages_of p.vars) (at + 1) (image_size p.vars - 1) (omega arith) (omega arith) mid paged writes

    pub once_paged : Spares (image_at p.vars p.copy) (image_size p.vars) old paged
    once_paged = subst (λ (k : ℕ). Spares k (image_size p.vars) old paged) offset
        (Spares-paged at (image_size p.vars) old mid device (Spares-wider at (image_size p.vars) old mid (omega arith) spares) paged (omega arith) closed behind model)

    pub closed_once_paged : StandsClosed at paged
    closed_once_paged = still_closed at (image_size p.vars) old mid device (Spares-wider at (image_size p.vars) old mid (omega arith) spares) paged (omega arith) closed behind model

-- one body is made of a header behind the gate and of the pages behind that
parts_stand : (at : ℕ) (header pages c : List ℕ) → HasBody at header c → slice_range c (at + 1 + length header) (at + 1 + length header + length pages) ≡ pages → HasBody at (header ++ pages) c
parts_stand at header pages c first second =
    let whole : at + 1 + length (header ++ pages) - (at + 1) ≡ length (header ++ pages) = omega arith in
    let front : length header ≡ at + 1 + length header - (at + 1) = omega arith in
    let behind : length pages ≡ at + 1 + length header + length pages - (at + 1 + length header) = omega arith in
    ap (λ (n : ℕ). take n (drop (at + 1) c)) whole
    ∙ (both_parts (at + 1) header pages c (record { is = ap (λ (n : ℕ). take n (drop (at + 1) c)) front ∙ first }) (record { is = ap (λ (n : ℕ). take n (drop (at + 1 + length header) c)) behind ∙ second })).is

-- The pages of an image stand in its copy, behind the offset of its header.
pub record IsPaged (p : ImagePlaced) (header : List ℕ) (d : DeviceView) : Type 0 where
  pub long : length header ≡ 2047
  pub pages_long : length (pages_body p.vars p.state.values) ≡ 512 * pages_of p.vars
  pub whole : header ++ pages_body p.vars p.state.values ≡ image_body Two p.vars p.generation p.state
  pub stand : d.keeps_model → slice_range d.seen (image_at p.vars p.copy + 1 + length header) (image_at p.vars p.copy + 1 + length header + length (pages_body p.vars p.state.values)) ≡ pages_body p.vars p.state.values

parts_of_image : (v : Version) (vars generation : ℕ) (s : State) → header_body v generation s ++ pages_body vars s.values ≡ image_body v vars generation s
unfolding header_body image_body
parts_of_image v vars generation s = grouped (number_bytes 8 generation) (number_bytes 8 s.count) (names_body s.names) (version_byte v ∷ []) (pages_body vars s.values)
  where
    grouped : (a b n m p : List ℕ) → (a ++ (b ++ (n ++ m))) ++ p ≡ a ++ (b ++ (n ++ (m ++ p)))
    grouped a b n m p = simp append_assoc

-- once they stand there
pub paged : (p : ImagePlaced) (at : ℕ) → at ≡ image_at p.vars p.copy → (header : List ℕ) → header ≡ header_body Two p.generation p.state → AreRegistered p.state.names → length p.state.values ≡ p.vars → (d : DeviceView) → (values : List ℤ) → values ≡ p.state.values
    → (d.keeps_model → StandsAt (at + 2048) (pages_body p.vars values) d.seen) → IsPaged p header d
paged p at offset header is names sized d values same stand =
    let pages = pages_body p.vars p.state.values in
    let long : length header ≡ 2047 = ap length is ∙ length-header_body Two p.generation p.state names in
    let behind : image_at p.vars p.copy + 1 + length header ≡ at + 2048 = omega (arith, offset, long) in
    record {
      long = long;
      pages_long = length-pages_body p.vars p.state.values sized;
      whole = ap (λ (l : List ℕ). l ++ pages) is ∙ parts_of_image Two p.vars p.generation p.state;
      stand = λ k.
          let there : StandsAt (at + 2048) pages d.seen = subst (λ (zs : List ℤ). StandsAt (at + 2048) (pages_body p.vars zs) d.seen) same (stand k) in
          ap (λ (n : ℕ). slice_range d.seen n (n + length pages)) behind ∙ between_is (at + 2048) (length pages) d.seen ∙ there.is;
    }

-- with its header the image stands there
pub image_stands : (p : ImagePlaced) (header : List ℕ) (d : DeviceView) → IsPaged p header d → d.keeps_model → (c : List ℕ) → HasBody (image_at p.vars p.copy) header c → SameOutside (image_at p.vars p.copy) (1 + length header) d.seen c
    → HasBody (image_at p.vars p.copy) (image_body Two p.vars p.generation p.state) c
image_stands p header d it k c has same =
    let at = image_at p.vars p.copy in
    let pages = pages_body p.vars p.state.values in
    subst (λ (body : List ℕ). HasBody at body c) it.whole (parts_stand at header pages c has (slice_range-after at (1 + length header) d.seen c (at + 1 + length header) (at + 1 + length header + length pages) (omega arith) same ∙ it.stand k))

-- before the whole image was there
by_then : (p : ImagePlaced) (old : DeviceView) (o : ChangeOutcome) → (o ≡ NotBegun → ⊥) → (c : List ℕ) → MadeBy (WithoutImage p) old c → Meanwhile (WithoutImage p) (WithImage p) old o c
by_then p old WasMade some c from = (from.0, from.1, inl from.2)
by_then p old NotMade some c from = from
by_then p old InDoubt some c from = (from.0, from.1, inl from.2)
by_then p old NotBegun some c from = absurd (some refl)

-- the copy is closed over its pages, and then its header is put, a cell of its own
module _ (p : ImagePlaced) (header : List ℕ) (number : IsGeneration p.generation) (fits : IsImage p.vars p.state) (old paged new : DeviceView) (device : IsDevice paged) (spares : Spares (image_at p.vars p.copy) (image_size p.vars) old paged)
    (is_paged : IsPaged p header paged) (o : ChangeOutcome) (begun : o ≡ NotBegun → ⊥) (model : new.keeps_model → paged.keeps_model) where
  abbrev at : ℕ
  at = image_at p.vars p.copy

  abbrev n : ℕ
  n = image_size p.vars

  header_fits : at + (1 + length header) ≤ at + n
  header_fits = omega (arith, is_paged.long)

  abbrev No : List ℕ → List ℕ → Type 0
  No = LeftClosed at (length header)

  abbrev Yes : List ℕ → List ℕ → Type 0
  Yes = LeftOpen at header paged.seen

  no : (b m c : List ℕ) → WithoutImage p b m → No m c → WithoutImage p b c
  no b m c left it = record {
    elsewhere = SameOutside-trans at n b m c left.elsewhere (SameOutside-wider at (1 + length header) at n m c (omega arith) header_fits it.elsewhere);
    stale = λ generation stale. inl it.gate;
  }

  yes : paged.keeps_model → (b m c : List ℕ) → WithoutImage p b m → Yes m c → WithImage p b c
  yes k b m c left it = record {
    elsewhere = SameOutside-trans at n b m c left.elsewhere (SameOutside-wider at (1 + length header) at n m c (omega arith) header_fits it.elsewhere);
    image = record {
      number = number;
      fits = fits;
      cell = record {
        gate = it.cell.gate;
        body = image_stands p header paged is_paged k c it.cell.body it.as_seen;
      };
    };
  }

  before : paged.keeps_model → (c : List ℕ) → paged.may_leave c → MadeBy (WithoutImage p) old c
  before = (spared_now at n old paged device spares).each

  chained : paged.keeps_model → (P : ChangeOutcome) → (P ≡ NotBegun → ⊥) → (c : List ℕ) → Becomes No Yes paged P c → Becomes (WithoutImage p) (WithImage p) old P c
  chained k WasMade some c from = let was = before k from.0 from.1 in (was.0, was.1, yes k was.0 from.0 c was.2 from.2)
  chained k NotMade some c from = let was = before k from.0 from.1 in (was.0, was.1, no was.0 from.0 c was.2 from.2)
  chained k InDoubt some c from =
      let was = before k from.0 from.1 in
      (was.0, was.1, ⊎_elim (λ shut_it. inl (no was.0 from.0 c was.2 shut_it)) (λ opened. inr (yes k was.0 from.0 c was.2 opened)) from.2)
  chained k NotBegun some c from = absurd (some refl)

  -- at a moment of it
  since : paged.keeps_model → (P : ChangeOutcome) → (P ≡ NotBegun → ⊥) → (c : List ℕ) → Meanwhile No Yes paged P c → Meanwhile (WithoutImage p) (WithImage p) old P c
  since k WasMade some c from = chained k InDoubt (λ is. cc) c from
  since k NotMade some c from = chained k NotMade (λ is. cc) c from
  since k InDoubt some c from = chained k InDoubt (λ is. cc) c from
  since k NotBegun some c from = absurd (some refl)

  pub put_last : Puts at (1 + length header) No Yes paged new o → Puts at n (WithoutImage p) (WithImage p) old new o
  put_last put = record {
    elsewhere = WritesWithin-trans at n old paged new model spares.within (WritesWithin-wider at (1 + length header) at n (omega arith) header_fits paged new put.elsewhere);
    stands = record { each = λ k c left. chained (model k) o begun c (put.stands.each k c left) };
    any_moment = record {
      each = λ k c left. ⊎_elim
          (λ was. by_then p old o begun c (spares.during.each (model k) c was))
          (λ is. since (model k) o begun c (put.any_moment.each k c is))
          (either_time old paged new _ model spares.within.time.later put.elsewhere.time k c left);
    };
  }

-- where a call failed then
pub spared : (p : ImagePlaced) (old new : DeviceView) → IsDevice new → Spares (image_at p.vars p.copy) (image_size p.vars) old new → (r : Result (Unit {0}) Fault) (f : Fault) → r ≡ Err f → (f ≡ Device) ⊎ (f ≡ Unknown)
    → Puts (image_at p.vars p.copy) (image_size p.vars) (WithoutImage p) (WithImage p) old new (call_outcome r)
spared p old new device spares r f is which =
    subst (λ (o : ChangeOutcome). Puts (image_at p.vars p.copy) (image_size p.vars) (WithoutImage p) (WithImage p) old new o) (sym (ap call_outcome is)) (⊎_elim
    (λ e. subst (λ (g : Fault). Puts (image_at p.vars p.copy) (image_size p.vars) (WithoutImage p) (WithImage p) old new (call_outcome (Err g))) (sym e) (record {
      elsewhere = spares.within;
      stands = spared_now (image_at p.vars p.copy) (image_size p.vars) old new device spares;
      any_moment = spares.during;
    }))
    (λ e. subst (λ (g : Fault). Puts (image_at p.vars p.copy) (image_size p.vars) (WithoutImage p) (WithImage p) old new (call_outcome (Err g))) (sym e) (record {
      elsewhere = spares.within;
      stands = record { each = λ k c left. by_then p old InDoubt (λ x. cc) c ((spared_now (image_at p.vars p.copy) (image_size p.vars) old new device spares).each k c left) };
      any_moment = record { each = λ k c left. by_then p old InDoubt (λ x. cc) c (spares.during.each k c left) };
    }))
    which)

-- a call that writes and syncs does not end before it begins
pub is_begun : (r : Result (Unit {0}) Fault) → IfErr r (λ f. (f ≡ Device) ⊎ (f ≡ Unknown)) → call_outcome r ≡ NotBegun → ⊥
is_begun (Ok x) errors is = cc
is_begun (Err f) (inl e) is = made_not (sym (ap (λ (g : Fault). call_outcome (Err g)) e) ∙ is)
  where
    made_not : NotMade ≡ NotBegun → ⊥
    made_not same = cc
is_begun (Err f) (inr e) is = doubt_not (sym (ap (λ (g : Fault). call_outcome (Err g)) e) ∙ is)
  where
    doubt_not : InDoubt ≡ NotBegun → ⊥
    doubt_not same = cc
