-- A walk along a path, step by step.
use Prim.Native.Nat.{ℕ, zero, suc, ◌+◌, ◌^◌, ◌<◌, ◌≤◌}
use mathlib.Core.List.{List, [], ◌∷◌}
use mathlib.Core.Bool.{true, false, ◌&&◌}
use mathlib.Core.Path.{◌≡◌, refl, sym, ap, ◌∙◌}
use native.Mathlib.Omega.{arith}
use native.Mathlib.Numerals.{add-one}
use native.Mathlib.Decide.{ℕ_discrete}
use borrow.Author.Tests.{leb-true}
use lib.IntN.{ℤ, pos, nat_abs, ◌+ℤ◌}
use lib.Signed.{mag}
use mir.Syntax.{w32}
use mir.Val.{to_z, of_z}
use lib.ListN.{get_or, length, take, drop}
use lib.Seq.{drop-cons, drop-length, get_or-take}
use Rattle.mathematics.proofs.Signed.{size_sum, back32}
use Rattle.gauss_law.specs.Gauss.{within}
use Rattle.gauss_law.specs.Shifts.{raised, shifted}
use Rattle.gauss_law.proofs.Shifts.{shifted_length, shifted_at, shifted_elsewhere}
use Rattle.plaquettes.proofs.TriangleRows.{take_shifted}
use Rattle.wilson.specs.Wilson.{Step, path_of, stays, walked}
use Rattle.wilson.specs.Walking.{PathFits, Underway}

-- ---- the steps of a path
pub path_long : (es : List ℕ) (ds : List ℤ) → length ds ≡ length es → length (path_of es ds) ≡ length es
unfolding path_of
path_long [] ds e = refl
path_long (x ∷ es) [] e = absurd (omega arith)
path_long (x ∷ es) (d ∷ ds) e = ap suc (path_long es ds (omega arith))

pub path_at : (es : List ℕ) (ds : List ℤ) → length ds ≡ length es → (k : ℕ) → k < length es → get_or (path_of es ds) k (0, pos 0) ≡ (get_or es k 0, get_or ds k (pos 0))
unfolding path_of
path_at [] ds e k h = absurd (omega arith)
path_at (x ∷ es) [] e k h = absurd (omega arith)
path_at (x ∷ es) (d ∷ ds) e zero h = refl
path_at (x ∷ es) (d ∷ ds) e (suc k) h = path_at es ds (omega arith) k (omega arith)

path_drop : (es : List ℕ) (ds : List ℤ) → length ds ≡ length es → (k : ℕ) → k < length es → drop k (path_of es ds) ≡ (get_or es k 0, get_or ds k (pos 0)) ∷ drop (k + 1) (path_of es ds)
path_drop es ds e k h =
    drop-cons (path_of es ds) k (0, pos 0) (rw (path_long es ds e) h)
    ∙ ap (λ t. t ∷ drop (suc k) (path_of es ds)) (path_at es ds e k h)
    ∙ ap (λ n. (get_or es k 0, get_or ds k (pos 0)) ∷ drop n (path_of es ds)) (sym (add-one k))

-- ---- a step
module _ (L m : ℕ) (s : List ℤ) (es : List ℕ) (ds : List ℤ) (fits : PathFits m es ds) (few : m ≤ 63) (k : ℕ) (row : List ℤ) (u : Underway L m s (path_of es ds) k row) (more : k < length es) where
  abbrev e : ℕ
  e = get_or es k 0

  abbrev d : ℤ
  d = get_or ds k (pos 0)

  inside : e < m
  inside = fits.edges_below k more

  -- what the step asks for
  pub step_ready : L ≤ 1000 → (length row ≡ 63) × (e < 63) × (L ≤ 1000) × (nat_abs (raised row e d) ≤ 2 ^ 20)
  unfolding raised
  step_ready low = (u.long, omega (arith, inside), low, omega (arith, size_sum (get_or row e (pos 0)) d, u.small e inside, fits.small k more))

  same_raised : raised (take m row) e d ≡ raised row e d
  unfolding raised
  same_raised = rw (get_or-take m row e (pos 0) inside)

  goes_on : stays L s (path_of es ds) ≡ (within L (raised row e d) && stays L (shifted (take m row) e d) (drop (k + 1) (path_of es ds)))
  unfolding stays
  goes_on =
      u.staying ∙ ap (stays L (take m row)) (path_drop es ds fits.as_many k more)
      ∙ ap (λ x. within L x && stays L (shifted (take m row) e d) (drop (k + 1) (path_of es ds))) same_raised

  pub step_leaves : within L (raised row e d) ≡ false → stays L s (path_of es ds) ≡ false
  step_leaves h = goes_on ∙ rw h

  leads_on : walked s (path_of es ds) ≡ walked (shifted (take m row) e d) (drop (k + 1) (path_of es ds))
  unfolding walked
  leads_on = u.leading ∙ ap (walked (take m row)) (path_drop es ds fits.as_many k more)

  small_after : within L (raised row e d) ≡ true → (i : ℕ) → i < m → nat_abs (get_or (shifted row e d) i (pos 0)) ≤ L
  unfolding within
  small_after h i l = go (ℕ_discrete i e)
    where
      go : Dec (i ≡ e) → nat_abs (get_or (shifted row e d) i (pos 0)) ≤ L
      go (yes q) = rw (q, shifted_at row e d (omega (arith, u.long, inside))) (leb-true _ _ h)
      go (no q) = rw (shifted_elsewhere row e d i q) (u.small i l)

  pub step_stays : within L (raised row e d) ≡ true → Underway L m s (path_of es ds) (k + 1) (shifted row e d)
  step_stays h =
      record {
        long = shifted_length row e d ∙ u.long;
        small = small_after h;
        staying = goes_on ∙ rw (h, take_shifted row e d m inside);
        leading = leads_on ∙ rw (take_shifted row e d m inside);
      }

-- ---- the first configuration and the last
pub walk_begins : (L m : ℕ) (s : List ℤ) (w : List Step) (row : List ℤ) → length row ≡ 63 → take m row ≡ s → ((e : ℕ) → e < m → nat_abs (get_or s e (pos 0)) ≤ L) → Underway L m s w 0 row
walk_begins L m s w row long front small =
    record {
      long = long;
      small = λ e h. rw (sym (get_or-take m row e (pos 0) h) ∙ ap (λ l. get_or l e (pos 0)) front) (small e h);
      staying = rw front;
      leading = rw front;
    }

module _ (L m : ℕ) (s : List ℤ) (es : List ℕ) (ds : List ℤ) (fits : PathFits m es ds) (k : ℕ) (row : List ℤ) (u : Underway L m s (path_of es ds) k row) (past : k ≡ length es) where
  nothing_left : drop k (path_of es ds) ≡ []
  nothing_left = rw (past ∙ sym (path_long es ds fits.as_many)) (drop-length (path_of es ds))

  pub walk_stays : stays L s (path_of es ds) ≡ true
  unfolding stays
  walk_stays = u.staying ∙ rw nothing_left

  pub walk_leads : walked s (path_of es ds) ≡ take m row
  unfolding walked
  walk_leads = u.leading ∙ rw nothing_left

-- ---- a value and a direction, as the machine adds them
pub sum_is : (row : List ℤ) (e : ℕ) (d : ℤ) (e' : ℕ) (d' : ℤ) → e' ≡ e → mag (get_or row e' (pos 0)) < 2 ^ 31 → d' ≡ d → mag d' < 2 ^ 31
    → to_z w32 (of_z w32 (get_or row e' (pos 0))) +ℤ to_z w32 (of_z w32 d') ≡ raised row e d
unfolding raised
sum_is row e d e' d' is x is' y = rw (back32 (get_or row e' (pos 0)) x, back32 d' y) (rw (is, is'))
