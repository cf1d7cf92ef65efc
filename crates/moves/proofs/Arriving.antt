-- Where the moves in the tables lead: to the targets of the triangles, found from pointers that stay behind them.
use Prim.Native.Nat.{ℕ, zero, suc, ◌+◌, ◌*◌, ◌-◌, ◌^◌, ◌<◌, ◌≤◌, min}
use mathlib.Core.List.{List, [], ◌∷◌, ◌++◌, append-nil, append_assoc, flat_map}
use mathlib.Core.Bool.{Bool, true, false, cond}
use mathlib.Core.Path.{◌≡◌, refl, sym, ap, ap₂, ◌∙◌}
use native.Mathlib.Omega.{arith}
use lib.Dec.{ltb}
use lib.IntN.{ℤ, pos, negsuc}
use lib.Ieee.{Float, nan}
use lib.ListN.{get_or, length}
use Rattle.mathematics.specs.Counting.{below}
use Rattle.mathematics.proofs.Flat.{flat_map_last}
use Rattle.complex.specs.Complex.{Complex}
use Rattle.complex.specs.Judge.{Accepted}
use Rattle.triangles.specs.Indices.{AllSides}
use Rattle.gauss_law.specs.Listing.{free_edges, states, limit}
use Rattle.matrices.specs.declared.coupling.KSParams.{KSParams}
use Rattle.matrices.specs.Terms.{row_plaquette_term}
use Rattle.rows.specs.Row.{kept}
use Rattle.plaquettes.specs.Triangle.{moved_state, sides_within, target}
use Rattle.plaquettes.proofs.TriangleTelling.{state_there}
use Rattle.plaquettes.proofs.Moves.{stays_at, target_rises}
use Rattle.plaquettes.proofs.Pairing.{stays_told}
use Rattle.moves.specs.Numbers.{number}
use Rattle.moves.specs.Moves.{Moves, triangle_at, unit_at, moved_entries, goes, arrives, collected, pointed, entry_of, unit_of, rest_number, shift_number, move_at, change_in, change_of, MoveAt, Behind, Pointers}
use Rattle.moves.proofs.Seeking.{sought_found}
use Rattle.moves.proofs.Numbers.{number_rises, rest_few, shift_few, forward_number, back_number}
use Rattle.moves.proofs.MoveNumbers.{move_low, key_change}
use Rattle.moves.proofs.Collecting.{pointed_at}

module _ (c : Complex) (accepted : Accepted c) (L : ℕ) (p : KSParams) (w : ℕ → Float) (free : List ℕ) (listed : (j : ℕ) → j < length (free_edges c) → get_or free j 0 ≡ get_or (free_edges c) j 0) (few : (2 * L + 1) ^ length (free_edges c) ≤ limit)
    (v : Moves) (sides_are : AllSides c v.sides) (moves : ℕ) (is : (k : ℕ) → k < moves → MoveAt c L p w free v k)
    (numbers : ℕ → ℕ) (numbered : (i : ℕ) → i < length (states c L) → numbers i ≡ number L L free (length (free_edges c)) (get_or (states c L) i []))
    (pointers : List ℕ) (i : ℕ) (h : i < length (states c L)) (behind : Behind c L v moves pointers i) where
  abbrev N : ℕ
  N = length (states c L)

  abbrev state : List ℤ
  state = get_or (states c L) i []

  module _ (k : ℕ) (small : k < moves) where
    abbrev t : ℕ
    t = triangle_at v k

    abbrev u : ℤ
    u = unit_at v k

    number_of : t < length c.triangles
    number_of = (is k small).inside

    -- a move is taken just where it stays
    pub goes_told : goes v L state k ≡ sides_within c L t (moved_state c L t u i)
    unfolding goes moved_state
    goes_told = stays_told c accepted L t number_of state (state_there c accepted L i h).sized _ (sides_are.are t number_of) u

    numbers_rise : (a b : ℕ) → a < b → b < N → numbers a < numbers b
    numbers_rise a b less below = rw (numbered a (omega arith), numbered b below) (number_rises c accepted L free listed a b less below)

    -- the numbers of a state and its target
    differ : sides_within c L t (moved_state c L t u i) ≡ true → numbers (target c L t u i) + limit ≡ numbers i + change_in (get_or v.keys k 0)
    unfolding unit_of change_of
    differ band =
        rw (ap change_in (is k small).key_is ∙ key_change c L free (move_at v k) (move_low v k), numbered i h, numbered (target c L t u i) (stays_at c accepted L t number_of u i h band).below) (go (ltb (move_at v k) 256) refl band)
      where
        go : (b : Bool) → ltb (move_at v k) 256 ≡ b → sides_within c L t (moved_state c L t (cond b (negsuc 0) (pos 1)) i) ≡ true
            → number L L free (length (free_edges c)) (get_or (states c L) (target c L t (cond b (negsuc 0) (pos 1)) i) []) + limit
            ≡ number L L free (length (free_edges c)) (get_or (states c L) i []) + cond b (limit + rest_number c L free - shift_number c L free t) (limit + shift_number c L free t - rest_number c L free)
        go true e stay = omega (arith, shift_few c accepted L free listed few t number_of, back_number c accepted L free listed t number_of i h stay)
        go false e stay = omega (arith, rest_few c accepted L free listed few, forward_number c accepted L free listed t number_of i h stay)

    -- where it stays, the place that is sought is its target
    pub arrives_told : sides_within c L t (moved_state c L t u i) ≡ true → arrives v numbers N (numbers i) pointers k ≡ target c L t u i
    unfolding arrives
    arrives_told band =
        let there = (stays_at c accepted L t number_of u i h band).below in
        let same = differ band in
        sought_found numbers (numbers i + change_in (get_or v.keys k 0)) (get_or pointers k 0) (target c L t u i) N (behind k small i (omega arith) h) there same
        (λ j less. let e = numbers_rise j (target c L t u i) less there in omega (arith, same, e))

  one : (k : ℕ) → k < moves → cond {A = List (ℕ × Float)} (goes v L state k) ((arrives v numbers N (numbers i) pointers k, get_or v.terms k nan) ∷ []) [] ≡ entry_of c L p w i (move_at v k)
  unfolding entry_of
  one k small = rw (goes_told k small, (is k small).term_is) (go (sides_within c L (triangle_at v k) (moved_state c L (triangle_at v k) (unit_at v k) i)) refl)
    where
      go : (b : Bool) → sides_within c L (triangle_at v k) (moved_state c L (triangle_at v k) (unit_at v k) i) ≡ b
          → cond {A = List (ℕ × Float)} b ((arrives v numbers N (numbers i) pointers k, row_plaquette_term p (w (triangle_at v k))) ∷ []) [] ≡ cond {A = List (ℕ × Float)} b ((target c L (triangle_at v k) (unit_at v k) i, row_plaquette_term p (w (triangle_at v k))) ∷ []) []
      go true e = ap (λ j. (j, row_plaquette_term p (w (triangle_at v k))) ∷ []) (arrives_told k small e)
      go false e = refl

  -- the pointers stay behind the targets of the next state
  pub behind_next : Pointers N pointers → moves ≤ 512 → Behind c L v moves (pointed v L numbers N state (numbers i) pointers moves) (i + 1)
  behind_next right few k small j later below =
      rw (pointed_at v L numbers N state (numbers i) pointers moves k small (omega (arith, right.long))) (go (goes v L state k) refl)
    where
      go : (b : Bool) → goes v L state k ≡ b → cond b (min (arrives v numbers N (numbers i) pointers k + 1) N) (get_or pointers k 0) ≤ target c L (triangle_at v k) (unit_at v k) j
      go true e =
          let band = sym (goes_told k small) ∙ e in
          let there = (stays_at c accepted L (triangle_at v k) (is k small).inside (unit_at v k) i h band).below in
          let rise = target_rises c accepted L (triangle_at v k) (is k small).inside (unit_at v k) i j (omega arith) below there in
          omega (arith, arrives_told k small band, rise)
      go false e = behind k small j (omega arith) below

  -- what is collected: x where it is kept, then the entries of the moves in the order of the tables
  pub collected_told : (x : Float) (m : ℕ) → m ≤ moves → collected v L numbers N state (numbers i) pointers i x m ≡ cond (kept x) ((i, x) ∷ []) [] ++ moved_entries c L p w v i m
  unfolding collected below flat_map
  collected_told x zero few = sym (append-nil (cond (kept x) ((i, x) ∷ []) []))
  collected_told x (suc k) few =
      ap₂ (λ a b. a ++ b) (collected_told x k (omega arith)) (one k few)
      ∙ append_assoc (cond (kept x) ((i, x) ∷ []) []) (moved_entries c L p w v i k) (entry_of c L p w i (move_at v k))
      ∙ ap (λ l. cond (kept x) ((i, x) ∷ []) [] ++ l) (sym (flat_map_last (λ k. entry_of c L p w i (move_at v k)) (below k) k))
