-- A spelling, as it is put into a buffer part by part.
use Rattle.std.proofs.Common.{◌≡◌, ◌<◌, ◌≤◌, ◌+◌, ◌-◌, ◌*◌, ℕ, ℤ, pos, List, [], ◌∷◌, ◌++◌, length, take, drop, get_or, flat_map, sum_by, sym, ◌∙◌, ap, arith, append_assoc, length-append, refl}
use Rattle.std.specs.Int.{w64, cast_unsigned}
use Rattle.std.proofs.lemmas.List.{take_more, flat_map_more, drop-drop}
use Rattle.std.proofs.lemmas.List.Sums.{sum_by-cons, sum_by_more_le}
use Rattle.byteorder.specs.Endian.{little_bytes}
use Rattle.tmem_effect.specs.declared.effect.Effect.{Effect}
use Rattle.tmem_state.specs.Batch.{record_length_in, records_length_in}
use Rattle.tmem_state.specs.Versions.{retired_length}
use Rattle.tmem_state.specs.declared.version.Version.{Version}
use Rattle.tmem_state.specs.declared.version.Version.TheVariants.{One, Two}
use Rattle.tmem_record.specs.Spelling.{number_bytes, value_bytes, write_bytes, name_bytes, writes_bytes, names_bytes, retired_bytes, record_bytes, batch_bytes}
use Rattle.tmem_record.proofs.SpellingLaws.{length-write_bytes}

-- one part more
pub part_more : {X : Type 0} (f : X → List ℕ) (xs : List X) (i : ℕ) (d : X) → i < length xs → (front b0 b1 part : List ℕ) → b0 ≡ front ++ flat_map f (take i xs) → b1 ≡ b0 ++ part → part ≡ f (get_or xs i d) → b1 ≡ front ++ flat_map f (take (i + 1) xs)
part_more f xs i d below front b0 b1 part before here is =
    here ∙ ap (λ (l : List ℕ). l ++ part) before ∙ ap (λ (l : List ℕ). (front ++ flat_map f (take i xs)) ++ l) is ∙ flat_map_more f front (take i xs) (get_or xs i d)
    ∙ ap (λ l. front ++ flat_map f l) (sym (take_more xs i d below))

two_parts : (b0 b1 b2 p q : List ℕ) → b1 ≡ b0 ++ p → b2 ≡ b1 ++ q → b2 ≡ b0 ++ (p ++ q)
two_parts b0 b1 b2 p q first second = second ∙ ap (λ (l : List ℕ). l ++ q) first ∙ append_assoc b0 p q

write_is : (var value : List ℕ) (w : ℕ × ℤ) → var ≡ little_bytes 2 w.0 → value ≡ little_bytes 8 (cast_unsigned w64 w.1) → var ++ value ≡ write_bytes w
unfolding write_bytes value_bytes number_bytes
write_is var value w var_is value_is = ap (λ (l : List ℕ). l ++ value) var_is ∙ ap (λ (l : List ℕ). little_bytes 2 w.0 ++ l) value_is

-- a write more
pub write_put : (ws : List (ℕ × ℤ)) (i : ℕ) → i < length ws → (front b0 b1 b2 var value : List ℕ) → b0 ≡ front ++ flat_map write_bytes (take i ws) → b1 ≡ b0 ++ var → b2 ≡ b1 ++ value
    → var ≡ little_bytes 2 (get_or ws i (0, pos 0)).0 → value ≡ little_bytes 8 (cast_unsigned w64 (get_or ws i (0, pos 0)).1) → b2 ≡ front ++ flat_map write_bytes (take (i + 1) ws)
write_put ws i below front b0 b1 b2 var value before first second var_is value_is =
    part_more write_bytes ws i (0, pos 0) below front b0 b2 (var ++ value) before (two_parts b0 b1 b2 var value first second) (write_is var value (get_or ws i (0, pos 0)) var_is value_is)

name_is : (letters name : List ℕ) (n : ℕ) → n ≡ length letters → letters ≡ name → n ∷ letters ≡ name_bytes name
unfolding name_bytes
name_is letters name n n_is is = ap (λ (k : ℕ). k ∷ letters) n_is ∙ ap name_bytes is

-- a name more
pub name_put : (ns : List (List ℕ)) (i : ℕ) (d : List ℕ) → i < length ns → (front b0 b1 b2 letters : List ℕ) (n : ℕ) → b0 ≡ front ++ flat_map name_bytes (take i ns) → b1 ≡ b0 ++ n ∷ [] → b2 ≡ b1 ++ letters
    → n ≡ length letters → letters ≡ get_or ns i d → b2 ≡ front ++ flat_map name_bytes (take (i + 1) ns)
name_put ns i d below front b0 b1 b2 letters n before first second n_is is =
    part_more name_bytes ns i d below front b0 b2 (n ∷ letters) before (two_parts b0 b1 b2 (n ∷ []) letters first second) (name_is letters (get_or ns i d) n n_is is)

-- and there is room for it
pub name_room : (ns : List (List ℕ)) (i start at room : ℕ) (d : List ℕ) → i < length ns → at ≡ start + sum_by (λ n. 1 + length n) (take i ns) → start + sum_by (λ n. 1 + length n) ns ≤ room → at + (1 + length (get_or ns i d)) ≤ room
name_room ns i start at room d below there has = omega (arith, sum_by_more_le (λ n. 1 + length n) ns i d below, there, has)

-- a name alone
pub name_alone : (b1 b2 letters name : List ℕ) (n : ℕ) → b1 ≡ n ∷ [] → b2 ≡ b1 ++ letters → n ≡ length letters → letters ≡ name → b2 ≡ name_bytes name
name_alone b1 b2 letters name n first second n_is is = second ∙ ap (λ (l : List ℕ). l ++ letters) first ∙ name_is letters name n n_is is

-- what stays behind one offset stays behind a later one
pub drop_further : (m n : ℕ) (a b : List ℕ) → m ≤ n → drop m a ≡ drop m b → drop n a ≡ drop n b
drop_further m n a b le same =
    let e : m + (n - m) ≡ n = omega arith in
    ap (λ (k : ℕ). drop k a) (sym e) ∙ sym (drop-drop (n - m) m a) ∙ ap (drop (n - m)) same ∙ drop-drop (n - m) m b ∙ ap (λ (k : ℕ). drop k b) e

-- names behind how many there are
pub names_put : (ns : List (List ℕ)) (front b1 b2 : List ℕ) (n : ℕ) → b1 ≡ front ++ n ∷ [] → b2 ≡ b1 ++ flat_map name_bytes ns → n ≡ length ns → b2 ≡ front ++ names_bytes ns
unfolding names_bytes
names_put ns front b1 b2 n first second n_is = two_parts front b1 b2 (n ∷ []) (flat_map name_bytes ns) first second ∙ ap (λ (k : ℕ). front ++ (k ∷ flat_map name_bytes ns)) n_is

length-each : (ns : List (List ℕ)) → length (flat_map name_bytes ns) ≡ sum_by (λ n. 1 + length n) ns
unfolding name_bytes
length-each [] = refl
length-each (n ∷ ns) =
    omega (arith, length-append (length n ∷ n) (flat_map name_bytes ns), length-each ns, sum_by-cons (λ (m : List ℕ). 1 + length m) n ns)

pub length-names : (ns : List (List ℕ)) → length (names_bytes ns) ≡ 1 + sum_by (λ n. 1 + length n) ns
unfolding names_bytes
length-names ns = omega (arith, length-each ns)

length-writes : (ws : List (ℕ × ℤ)) → length (writes_bytes ws) ≡ 1 + 10 * length ws
unfolding writes_bytes
length-writes ws = omega (arith, each ws)
  where
    each : (vs : List (ℕ × ℤ)) → length (flat_map write_bytes vs) ≡ 10 * length vs
    each [] = refl
    each (v ∷ vs) = omega (arith, length-append (write_bytes v) (flat_map write_bytes vs), length-write_bytes v, each vs)

length-retired : (v : Version) (ns : List (List ℕ)) → length (retired_bytes v ns) ≡ retired_length v ns
length-retired One ns = refl
length-retired Two ns = length-names ns

-- how long a record is, and how long several are
pub length-record_bytes : (v : Version) (e : Effect) → length (record_bytes v e) ≡ record_length_in v e
unfolding record_bytes
length-record_bytes v e =
    omega (arith, length-append (writes_bytes e.writes) (names_bytes e.names ++ retired_bytes v e.retired), length-append (names_bytes e.names) (retired_bytes v e.retired), length-writes e.writes, length-names e.names, length-retired v e.retired)

pub length-records : (v : Version) (es : List Effect) → length (flat_map (record_bytes v) es) ≡ records_length_in v es
length-records v [] = refl
length-records v (e ∷ es) = omega (arith, length-append (record_bytes v e) (flat_map (record_bytes v) es), length-record_bytes v e, length-records v es, sum_by-cons (record_length_in v) e es)

-- a record from its parts
pub record_is : (e : Effect) (front b1 b2 b3 b4 : List ℕ) (m : ℕ) → b1 ≡ front ++ m ∷ [] → b2 ≡ b1 ++ flat_map write_bytes e.writes → b3 ≡ b2 ++ names_bytes e.names → b4 ≡ b3 ++ names_bytes e.retired
    → m ≡ length e.writes → b4 ≡ front ++ record_bytes Two e
unfolding record_bytes writes_bytes
record_is e front b1 b2 b3 b4 m e1 e2 e3 e4 m_is =
    let writes = two_parts front b1 b2 (m ∷ []) (flat_map write_bytes e.writes) e1 e2 in
    let names = two_parts b2 b3 b4 (names_bytes e.names) (names_bytes e.retired) e3 e4 in
    two_parts front b2 b4 (m ∷ flat_map write_bytes e.writes) (names_bytes e.names ++ names_bytes e.retired) writes names
    ∙ ap (λ (k : ℕ). front ++ ((k ∷ flat_map write_bytes e.writes) ++ (names_bytes e.names ++ names_bytes e.retired))) m_is

-- a batch from its parts
pub batch_is : (g f : ℕ) (es : List Effect) (b0 b1 b2 b3 generation first count : List ℕ) → b0 ≡ generation → b1 ≡ b0 ++ first → b2 ≡ b1 ++ count → b3 ≡ b2 ++ flat_map (record_bytes Two) es
    → generation ≡ little_bytes 8 g → first ≡ little_bytes 8 f → count ≡ little_bytes 2 (length es) → b3 ≡ batch_bytes Two g f es
unfolding batch_bytes number_bytes
batch_is g f es b0 b1 b2 b3 generation first count e0 e1 e2 e3 g_is f_is n_is =
    e3 ∙ ap (λ (l : List ℕ). l ++ records) (e2 ∙ ap (λ (l : List ℕ). l ++ count) (e1 ∙ ap (λ (l : List ℕ). l ++ first) e0))
    ∙ grouped generation first count records
    ∙ ap (λ (l : List ℕ). l ++ (first ++ (count ++ records))) g_is
    ∙ ap (λ (l : List ℕ). little_bytes 8 g ++ (l ++ (count ++ records))) f_is
    ∙ ap (λ (l : List ℕ). little_bytes 8 g ++ (little_bytes 8 f ++ (l ++ records))) n_is
  where
    records : List ℕ
    records = flat_map (record_bytes Two) es

    grouped : (a b c d : List ℕ) → ((a ++ b) ++ c) ++ d ≡ a ++ (b ++ (c ++ d))
    grouped a b c d = simp append_assoc
