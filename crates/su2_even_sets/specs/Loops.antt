-- The steps of the code: edges are taken by rising number. An edge inside one part of what the lower edges join closes a loop; any other edge
-- joins two parts. These closing edges are not the free edges of the spanning tree, though there are as many of both.
use Rattle.std.specs.Prelude.{ℕ, zero, suc, ◌+◌, ◌*◌, ◌^◌, ◌<◌, List, [], ◌∷◌, ◌++◌, map, cond, ◌≡◌, ◌≢◌, eqb, get_or}
use Rattle.std.specs.Int.Bits.{bit_xor}
use Rattle.mathematics.specs.Bits.{bit}
use Rattle.complex.specs.Complex.{Simplex, start, end}

-- the part of each vertex, named after one vertex of it; the edges on the way there; the closing edges so far and the loop of each
pub record Growth : Type 0 where
  pub part : ℕ → ℕ
  pub path : ℕ → ℕ
  pub closing : List ℕ
  pub loops : List ℕ

-- without edges each vertex is a part of its own
unfoldable pub separate : Growth
separate = record { part = λ v. v; path = λ v. 0; closing = []; loops = [] }

-- edge number e with the paths of its two ends: a loop where both are of one part, else the way between the vertices that name two parts
unfoldable pub loop : Growth → Simplex → ℕ → ℕ
loop g s e = bit_xor (bit_xor (g.path (start s)) (g.path (end s))) (2 ^ e)

-- edge number e closes a loop
unfoldable pub loop_closed : Growth → Simplex → ℕ → Growth
loop_closed g s e = record { part = g.part; path = g.path; closing = g.closing ++ (e ∷ []); loops = g.loops ++ (loop g s e ∷ []) }

-- edge number e joins the part of its end to that of its start
unfoldable pub join_parts : Growth → Simplex → ℕ → Growth
join_parts g s e =
    record {
      part = λ v. cond (eqb (g.part v) (g.part (end s))) (g.part (start s)) (g.part v);
      path = λ v. cond (eqb (g.part v) (g.part (end s))) (bit_xor (g.path v) (loop g s e)) (g.path v);
      closing = g.closing;
      loops = g.loops;
    }

unfoldable pub grow : Growth → Simplex → ℕ → Growth
grow g s e = cond (eqb (g.part (start s)) (g.part (end s))) (loop_closed g s e) (join_parts g s e)

-- after the first e edges
unfoldable pub grown : List Simplex → ℕ → Growth
grown es zero = separate
grown es (suc e) = grow (grown es e) (get_or es e []) e

-- all sums of the first n loops: doubled with each
unfoldable pub loop_sums : List ℕ → ℕ → List ℕ
loop_sums loops zero = 0 ∷ []
loop_sums loops (suc n) = loop_sums loops n ++ map (λ x. bit_xor x (get_or loops n 0)) (loop_sums loops n)

-- the sum of those of the first n loops whose bit of k is set
unfoldable pub sum_of_loops : List ℕ → ℕ → ℕ → ℕ
sum_of_loops loops k zero = 0
sum_of_loops loops k (suc n) = cond (eqb (bit k n) 1) (bit_xor (sum_of_loops loops k n) (get_or loops n 0)) (sum_of_loops loops k n)

-- the bits of x at the first n closing edges, as a number
unfoldable pub closing_bits : List ℕ → ℕ → ℕ → ℕ
closing_bits closing x zero = 0
closing_bits closing x (suc n) = closing_bits closing x n + bit x (get_or closing n 0) * 2 ^ n

-- the first n loops, each with the highest bit at its own closing edge and no bit at another's
pub record Echelon (n : ℕ) (closing loops : List ℕ) : Type 0 where
  pub rising : (i j : ℕ) → i < j → j < n → get_or closing i 0 < get_or closing j 0
  pub own : (j : ℕ) → j < n → bit (get_or loops j 0) (get_or closing j 0) ≡ 1
  pub others : (i j : ℕ) → i < n → j < n → i ≢ j → bit (get_or loops j 0) (get_or closing i 0) ≡ 0
  pub top : (j : ℕ) → j < n → (i : ℕ) → get_or closing j 0 < i → bit (get_or loops j 0) i ≡ 0
