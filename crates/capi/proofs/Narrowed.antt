-- Narrowing changes no answer: a number above 255 becomes 255, and both are out of every range. Assumes nothing.
use Rattle.std.proofs.Common.{◌≡◌, ℕ, ◌*◌, ◌<◌, ◌≤◌, min, Bool, true, false, cond, leb, ◌⊎◌, List, length, pos, neg_ℤ, Ok, Err, Result, sym, refl, ap, ◌∙◌, subst, inl, inr, mul-le-mul, arith, le-leb, leb-true}
use native.Mathlib.Nat.{min-eq_left, min-eq_right}
use native.Mathlib.Decide.{dec_lt}
use borrow.Author.Tests.{lt-leb}
use Rattle.field.specs.Laws.{Ops, Bounds}
use Rattle.piece.specs.declared.Settings.{Settings}
use Rattle.piece.specs.declared.fault.CutFault.{CutFault}
use Rattle.piece.specs.declared.fault.CutFault.TheVariants as fault
use Rattle.piece.specs.Cutting.{cutting, is_in_range, number, size, written}
use Rattle.piece.specs.Pieces.{columns, piece, Lawful}
use Rattle.piece.proofs.Ranges.{lawful, columns_few}
use Rattle.piece.proofs.Ranges.{in_range_lawful}
use Rattle.capi.specs.Answered.{asked, answered}

abbrev pub narrowed : ℕ → ℕ → ℕ → Settings
narrowed rows m n = asked (min rows 255) (min m 255) (min n 255)

-- a number is kept, or it and what it becomes are above every bound
kept : (x : ℕ) → (min x 255 ≡ x) ⊎ ((255 < x) × (min x 255 ≡ 255))
kept x = elim (dec_lt 255 x) [
  | yes h ↦ inr (h, min-eq_right (omega arith))
  | no h ↦ inl (min-eq_left (omega arith))
]

-- a number that stays within a bound below 255 was kept
kept_under : (x b : ℕ) → b < 255 → min x 255 ≤ b → min x 255 ≡ x
kept_under x b h l = elim (kept x) [
  | inl e ↦ e
  | inr k ↦ absurd (omega (arith, k.1))
]

module _ (rows m n : ℕ) where
  -- what is in range is not changed
  same_settings : Lawful (asked rows m n) → narrowed rows m n ≡ asked rows m n
  same_settings L =
      let r : min rows 255 ≡ rows = min-eq_left (omega (arith, L.kind)) in
      let k : min m 255 ≡ m = min-eq_left (omega (arith, L.needed)) in
      let l : min n 255 ≡ n = min-eq_left (omega (arith, L.made)) in
      cc

  -- what is out of range stays so
  still_lawful : Lawful (narrowed rows m n) → Lawful (asked rows m n)
  still_lawful L =
      let r : min rows 255 ≡ rows = kept_under rows 1 (omega arith) L.kind in
      let k : min m 255 ≡ m = kept_under m 16 (omega arith) L.needed in
      let l : min n 255 ≡ n = kept_under n 32 (omega arith) L.made in
      record {
        kind = omega (arith, L.kind);
        some = omega (arith, L.some);
        needed = omega (arith, L.needed);
        enough = omega (arith, L.enough);
        made = omega (arith, L.made);
      }

  still_out : (b : Bool) → is_in_range (narrowed rows m n) ≡ b → is_in_range (asked rows m n) ≡ false → b ≡ false
  still_out false e o = refl
  still_out true e o = sym (in_range_lawful (asked rows m n) (still_lawful (lawful (narrowed rows m n) e))) ∙ o

-- the refusals that a number of its own can bring about, and the way to them
module _ (K : Ops) (S : Settings) (job : List ℕ) (i room : ℕ) where
  out_of_range : is_in_range S ≡ false → cutting K S job i room ≡ Err (fault.Settings S.rows S.m S.n)
  out_of_range e = rw e refl

  too_long : is_in_range S ≡ true → leb (length job) 4096 ≡ false → cutting K S job i room ≡ Err (fault.Job (length job))
  too_long e l = rw (e, l) refl

  no_such : is_in_range S ≡ true → leb (length job) 4096 ≡ true → S.n < i → 1 ≤ i → cutting K S job i room ≡ Err (fault.Number i S.n)
  no_such e l h o = rw (e, l, le-leb 1 i o, lt-leb i S.n h) refl

-- two answers that a caller cannot tell apart
pub record Alike (K : Ops) (S T : Settings) (i j : ℕ) (a b : Result ℕ CutFault) : Type 0 where
  pub same_answer : answered a ≡ answered b
  pub same_bytes : (jn st : ℕ) (job out : List ℕ) → written a (piece K S i jn st job) out ≡ written b (piece K T j jn st job) out

both_refused : (K : Ops) (S T : Settings) (i j : ℕ) (a b : Result ℕ CutFault) (f g : CutFault) → a ≡ Err f → b ≡ Err g → number f ≡ number g → Alike K S T i j a b
both_refused K S T i j a b f g ea eb e = record {
  same_answer = ap answered ea ∙ (ap (λ (k : ℕ). neg_ℤ (pos k)) e ∙ sym (ap answered eb));
  same_bytes = λ jn st job out. ap (λ (r : Result ℕ CutFault). written r (piece K S i jn st job) out) ea ∙ sym (ap (λ (r : Result ℕ CutFault). written r (piece K T j jn st job) out) eb);
}

unchanged : (K : Ops) (S T : Settings) (i j : ℕ) (job : List ℕ) (room : ℕ) → S ≡ T → i ≡ j → Alike K S T i j (cutting K S job i room) (cutting K T job j room)
unchanged K S T i j job room e f =
    subst (λ (U : Settings). Alike K S U i j (cutting K S job i room) (cutting K U job j room)) e
    (subst (λ (k : ℕ). Alike K S S i k (cutting K S job i room) (cutting K S job k room)) f
    (record { same_answer = refl; same_bytes = λ jn st job out. refl }))

module _ (K : Ops) (rows m n i : ℕ) (job : List ℕ) (room : ℕ) where
  abbrev Stays : Type 0
  Stays = Alike K (narrowed rows m n) (asked rows m n) (min i 255) i (cutting K (narrowed rows m n) job (min i 255) room) (cutting K (asked rows m n) job i room)

  in_range_too : is_in_range (asked rows m n) ≡ true → is_in_range (narrowed rows m n) ≡ true
  in_range_too e = ap is_in_range (same_settings rows m n (lawful (asked rows m n) e)) ∙ e

  -- a piece number above 255: there is no such piece, nor one of the number 255
  by_length : (b : Bool) → leb (length job) 4096 ≡ b → is_in_range (asked rows m n) ≡ true → 255 < i → min i 255 ≡ 255 → Stays
  by_length false l e h k =
      both_refused K (narrowed rows m n) (asked rows m n) (min i 255) i _ _ _ _ (too_long K (narrowed rows m n) job (min i 255) room (in_range_too e) l) (too_long K (asked rows m n) job i room e l) refl
  by_length true l e h k =
      let L = lawful (asked rows m n) e in
      let N = lawful (narrowed rows m n) (in_range_too e) in
      both_refused K (narrowed rows m n) (asked rows m n) (min i 255) i _ _ _ _ (no_such K (narrowed rows m n) job (min i 255) room (in_range_too e) l (omega (arith, N.made)) (omega arith)) (no_such K (asked rows m n) job i room e l (omega (arith, L.made)) (omega arith)) refl

  by_range : (b : Bool) → is_in_range (asked rows m n) ≡ b → Stays
  by_range false e =
      both_refused K (narrowed rows m n) (asked rows m n) (min i 255) i _ _ _ _ (out_of_range K (narrowed rows m n) job (min i 255) room (still_out rows m n _ refl e)) (out_of_range K (asked rows m n) job i room e) refl
  by_range true e = elim (kept i) [
    | inl k ↦ unchanged K (narrowed rows m n) (asked rows m n) (min i 255) i job room (same_settings rows m n (lawful (asked rows m n) e)) k
    | inr h ↦ by_length _ refl e h.0 h.1
  ]

  pub alike : Stays
  alike = by_range _ refl

-- a piece's length is small

-- the tests that an accepted call passed
accepted : (a b c d e : Bool) (x len : ℕ) (f g h k l : CutFault)
    → cond a (cond b (cond c (cond d (cond e (Ok x) (Err l)) (Err k)) (Err h)) (Err g)) (Err f) ≡ Ok len → (a ≡ true) × (b ≡ true) × (x ≡ len)
accepted true true true true true x len f g h k l e = (refl, refl, cc)
accepted true true true true false x len f g h k l e = absurd (let z : ◌≡◌ {A = ℕ} 0 1 = cc in omega arith)
accepted true true true false q x len f g h k l e = absurd (let z : ◌≡◌ {A = ℕ} 0 1 = cc in omega arith)
accepted true true false p q x len f g h k l e = absurd (let z : ◌≡◌ {A = ℕ} 0 1 = cc in omega arith)
accepted true false o p q x len f g h k l e = absurd (let z : ◌≡◌ {A = ℕ} 0 1 = cc in omega arith)
accepted false n o p q x len f g h k l e = absurd (let z : ◌≡◌ {A = ℕ} 0 1 = cc in omega arith)

pub short_piece : (K : Ops) → Bounds K → (S : Settings) (job : List ℕ) (i room len : ℕ) → cutting K S job i room ≡ Ok len → len ≤ 4618
short_piece K B S job i room len e =
    let z = size K (columns S.m job) in
    let t = accepted (is_in_range S) (leb (length job) 4096) (leb 1 i) (leb i S.n) (leb z room) z len
    (fault.Settings S.rows S.m S.n) (fault.Job (length job)) (fault.Number i S.n) (fault.Number i S.n) (fault.Room room z) e in
    let L = lawful S t.0 in
    let few : columns S.m job ≤ 4096 = columns_few S.m (length job) L.some 4096 (leb-true (length job) 4096 t.1) in
    let most : columns S.m job * K.width ≤ 4096 * 9 = mul-le-mul few B.width_most in
    omega (arith, t.2)

-- what a call on narrowed numbers answers and writes is what is said of the numbers as they were
module _ (K : Ops) (rows m n i jn st : ℕ) (job before after : List ℕ) (a b c d : ℕ) (r : Result ℕ CutFault) where
  pub carried : a ≡ min rows 255 → b ≡ min m 255 → c ≡ min n 255 → d ≡ min i 255
      → r ≡ cutting K (asked a b c) job d (length before) → after ≡ written r (piece K (asked a b c) d jn st job) before
      → (answered r ≡ answered (cutting K (asked rows m n) job i (length before)))
      × (after ≡ written (cutting K (asked rows m n) job i (length before)) (piece K (asked rows m n) i jn st job) before)
  carried ea eb ec ed answer bytes =
      let s : asked a b c ≡ narrowed rows m n = cc in
      let x = alike K rows m n i job (length before) in
      let y : r ≡ cutting K (narrowed rows m n) job (min i 255) (length before) = answer ∙ (ap (λ (S : Settings). cutting K S job d (length before)) s ∙ ap (λ (k : ℕ). cutting K (narrowed rows m n) job k (length before)) ed) in
      let p : piece K (asked a b c) d jn st job ≡ piece K (narrowed rows m n) (min i 255) jn st job = ap (λ (S : Settings). piece K S d jn st job) s ∙ ap (λ (k : ℕ). piece K (narrowed rows m n) k jn st job) ed in (
        ap answered y ∙ x.same_answer,
        bytes ∙ (ap (λ (q : Result ℕ CutFault). written q (piece K (asked a b c) d jn st job) before) y
            ∙ (ap (λ (xs : List ℕ). written (cutting K (narrowed rows m n) job (min i 255) (length before)) xs before) p ∙ x.same_bytes jn st job before)),
      )
