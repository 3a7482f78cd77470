-- Of n rows any m of which have a trivial kernel, fewer than m are zero on a vector that is not. Assumes nothing.
use mathlib.Core.Path.{◌≡◌, refl, sym, subst}
use mathlib.Core.Logic.{◌≢◌}
use mathlib.Core.Bool.{Bool, true, false, cond}
use Prim.Native.Nat.{ℕ, zero, suc, ◌<◌}
use native.Mathlib.Omega.{arith}
use native.Mathlib.Decide.{dec_le}
use lib.Dec.{T}
use Rattle.algebra.specs.Field.{dot, Distinct, AnyRows, count}

-- m distinct numbers below n that pass the test
record Picked (n m : ℕ) (t : ℕ → Bool) (s : ℕ → ℕ) : Type 0 where
  within : (k : ℕ) → k < m → s k < n
  passes : (k : ℕ) → k < m → T (t (s k))
  distinct : Distinct m s

-- one more number in front
first : ℕ → (ℕ → ℕ) → ℕ → ℕ
first a s zero = a
first a s (suc k) = s k

first_distinct : (m n : ℕ) (s : ℕ → ℕ) → ((k : ℕ) → k < m → s k < n) → Distinct m s → Distinct (suc m) (first n s)
unfolding first
first_distinct m n s w d zero zero hi hj v = absurd (v refl)
first_distinct m n s w d zero (suc j) hi hj v = let l = w j (omega arith) in omega arith
first_distinct m n s w d (suc i) zero hi hj v = let l = w i (omega arith) in omega arith
first_distinct m n s w d (suc i) (suc j) hi hj v = d i j (omega arith) (omega arith) (omega arith)

-- one number more
pick_next : (n m : ℕ) (t : ℕ → Bool) (b : Bool) → t n ≡ b → (s : ℕ → ℕ) × Picked n m t s → (s : ℕ → ℕ) × Picked (suc n) (cond b (suc m) m) t s
unfolding first
pick_next n m t true e (s, p) = (
  first n s,
  record {
    within = elim [ zero ↦ λ l. omega arith | suc k ↦ λ l. let h = p.within k (omega arith) in omega arith ];
    passes = elim [ zero ↦ λ l. subst T (sym e) tt | suc k ↦ λ l. p.passes k (omega arith) ];
    distinct = first_distinct m n s p.within p.distinct;
  },
)
pick_next n m t false e (s, p) = (
  s,
  record {
    within = λ k l. let h = p.within k l in omega arith;
    passes = p.passes;
    distinct = p.distinct;
  },
)

pick : (n : ℕ) (t : ℕ → Bool) → (s : ℕ → ℕ) × Picked n (count n t) t s
unfolding count
pick zero t = (
  λ k. k,
  record {
    within = λ k l. l;
    passes = λ k l. absurd (omega arith);
    distinct = λ i j k l v. v;
  },
)
pick (suc n) t = pick_next n (count n t) t (t n) refl (pick n t)

-- the test may pass only where the row is zero on x
pub distance : {F : Type 0} (o : F) (add mul : F → F → F) (n m : ℕ) (A : ℕ → ℕ → F) → AnyRows o add mul n m A
    → (x : ℕ → F) (j : ℕ) → j < m → x j ≢ o
    → (t : ℕ → Bool) → ((i : ℕ) → i < n → T (t i) → dot o add mul m (A i) x ≡ o) → count n t < m
distance o add mul n m A any x j l nz t h = elim (dec_le m (count n t)) [
  | yes le ↦ let (s, p) = pick n t in
      absurd (nz (any s (λ k u. p.within k (omega arith)) (λ i k u v. p.distinct i k (omega arith) (omega arith)) x
      (λ r u. h (s r) (p.within r (omega arith)) (p.passes r (omega arith))) j l))
  | no gt ↦ omega arith
]
