-- A turn of the search: what lies across an edge, and the cases of a look and of serving a place.
use Prim.Native.Nat.{ℕ, zero, suc, ◌+◌, ◌<◌, ◌≤◌}
use mathlib.Core.List.{List, [], ◌∷◌, ◌++◌}
use mathlib.Core.Path.{◌≡◌, refl, sym, ap, subst, ◌∙◌}
use mathlib.Core.Bool.{Bool, true, false, ◌&&◌, ◌||◌, cond}
use mathlib.Core.Logic.{◌⊎◌, inl, inr, by_cases}
use native.Mathlib.Nat.{le_refl, lt_trans, lt_of_not-le}
use native.Mathlib.Numerals.{add-one}
use native.Mathlib.Decide.{dec_le, ℕ_discrete}
use native.Mathlib.Omega.{arith}
use borrow.Author.Tests.{eqb-true, eq-eqb, ne_eqb, lt-ltb, le-ltb}
use lib.ListN.{get_or, length}
use lib.Dec.{eqb}
use Rattle.mathematics.specs.Lists.{listed}
use Rattle.complex.specs.Complex.{Simplex, start, end, Joins}
use Rattle.complex.specs.Search.{Search, touches, across, look, scan, serve, served, Ends}

module _ (s : Simplex) (v : ℕ) where
  across_start : start s ≡ v → across s v ≡ end s
  unfolding across
  across_start p = rw (eq-eqb _ _ p)

  across_end : (start s ≡ v → ⊥) → across s v ≡ start s
  unfolding across
  across_end p = rw (ne_eqb _ _ p)

  -- an edge that v touches joins v and what lies across
  pub across_joins : touches s v ≡ true → Joins s v (across s v)
  unfolding touches
  across_joins t =
      by_cases (ℕ_discrete (start s) v)
      (λ p. inl (p, sym (across_start p)))
      (λ p. inr (sym (across_end p), eqb-true (end s) v (rw (ne_eqb (start s) v p) at t)))

  -- an edge that joins v and x has x across from v
  pub joins_across : (x : ℕ) → Joins s v x → across s v ≡ x
  joins_across x (inl p) = across_start p.0 ∙ p.1
  joins_across x (inr p) =
      by_cases (ℕ_discrete (start s) v)
      (λ q. across_start q ∙ p.1 ∙ sym q ∙ p.0)
      (λ q. across_end q ∙ p.0)

  pub joins_touches : (x : ℕ) → Joins s v x → touches s v ≡ true
  unfolding touches
  joins_touches x (inl p) = rw (eq-eqb (start s) v p.0)
  joins_touches x (inr p) = rw (eq-eqb (end s) v p.1) (or_true (eqb (start s) v))
    where
      or_true : (a : Bool) → (a || true) ≡ true
      or_true true = refl
      or_true false = refl

pub across_below : (n : ℕ) (es : List Simplex) → Ends n es → (e v : ℕ) → e < length es → across (get_or es e []) v < n
across_below n es ends e v l =
    by_cases (ℕ_discrete (start (get_or es e [])) v)
    (λ p. rw (across_start (get_or es e []) v p) (ends e l).1)
    (λ p. rw (across_end (get_or es e []) v p) (lt_trans (ends e l).0 (ends e l).1))

-- the search once vertex w was found by edge e
abbrev pub found : Search → ℕ → ℕ → Search
found s w e = record { seen = s.seen ++ (w ∷ []); tree = s.tree ++ (e ∷ []) }

module _ (es : List Simplex) (v : ℕ) (s : Search) (e : ℕ) where
  pub look_new : touches (get_or es e []) v ≡ true → listed eqb (across (get_or es e []) v) s.seen ≡ false → look es v s e ≡ found s (across (get_or es e []) v) e
  unfolding look
  look_new t u = rw (t, u)

  pub look_old : listed eqb (across (get_or es e []) v) s.seen ≡ true → look es v s e ≡ s
  unfolding look
  look_old u = rw u (kept (touches (get_or es e []) v))
    where
      kept : (t : Bool) → cond (t && false) (found s (across (get_or es e []) v) e) s ≡ s
      kept true = refl
      kept false = refl

  pub look_apart : touches (get_or es e []) v ≡ false → look es v s e ≡ s
  unfolding look
  look_apart t = rw t

  -- a look either finds a new vertex or changes nothing
  pub look_cases : (P : Search → Type 0) → (touches (get_or es e []) v ≡ true → listed eqb (across (get_or es e []) v) s.seen ≡ false → P (found s (across (get_or es e []) v) e)) → ((touches (get_or es e []) v ≡ false) ⊎ (listed eqb (across (get_or es e []) v) s.seen ≡ true) → P s) → P (look es v s e)
  look_cases P new old = go (touches (get_or es e []) v) (listed eqb (across (get_or es e []) v) s.seen) refl refl
    where
      go : (t u : Bool) → touches (get_or es e []) v ≡ t → listed eqb (across (get_or es e []) v) s.seen ≡ u → P (look es v s e)
      go true true t u = subst P (sym (look_old u)) (old (inr u))
      go true false t u = subst P (sym (look_new t u)) (new t u)
      go false b t u = subst P (sym (look_apart t)) (old (inl t))

module _ (es : List Simplex) (s : Search) (h : ℕ) where
  pub serve_filled : h < length s.seen → serve es s h ≡ scan es (get_or s.seen h 0) s (length es)
  unfolding serve
  serve_filled l = rw (lt-ltb _ _ l)

  pub serve_past : length s.seen ≤ h → serve es s h ≡ s
  unfolding serve
  serve_past l = rw (le-ltb _ _ l)

  -- where every vertex is seen, serving a place changes nothing
  pub serve_full : (n : ℕ) → Ends n es → ((v : ℕ) → v < n → listed eqb v s.seen ≡ true) → serve es s h ≡ s
  unfolding scan
  serve_full n ends all =
      by_cases (dec_le (length s.seen) h)
      (λ l. serve_past l)
      (λ (l : length s.seen ≤ h → ⊥). serve_filled (lt_of_not-le l) ∙ scan_full (get_or s.seen h 0) (length es) (le_refl (length es)))
    where
      scan_full : (v k : ℕ) → k ≤ length es → scan es v s k ≡ s
      scan_full v zero l = refl
      scan_full v (suc k) l =
          ap (λ t. look es v t k) (scan_full v k (omega arith)) ∙ look_old es v s k (all (across (get_or es k []) v) (across_below n es ends k v l))

  pub served_next : served es s (h + 1) ≡ serve es (served es s h) h
  unfolding served
  served_next = rw (add-one h)
