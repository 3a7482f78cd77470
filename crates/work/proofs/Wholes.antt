-- Bytes that the reader accepts are a whole piece. Assumes nothing.
use Rattle.std.proofs.Common.{◌≡◌, ℕ, ◌<◌, ◌≤◌, Bool, true, false, cond, leb, List, length, get_or, drop, sym, refl, ap, ◌∙◌, subst, arith, leb-true}
use borrow.Author.Tests.{both_ways}
use Rattle.field.specs.Laws.{Ops}
use Rattle.piece.specs.declared.Header.{Header}
use Rattle.piece.specs.Bits.{value_in}
use Rattle.piece.specs.Reading.{Accepts, GoodBody, count, header_in, sensible}
use Rattle.piece.proofs.Fields.{fields, header_of}
use Rattle.piece.proofs.Octets.{get_d_listed, length_listed}
use Rattle.work.specs.Whole.{Whole}

all_four : (P : Type 0) (a b c d : Bool) → cond a (cond b (cond c d false) false) false ≡ true → (a ≡ true → b ≡ true → c ≡ true → d ≡ true → P) → P
all_four P true true true d e f = f refl refl refl e
all_four P true true false d e f = absurd (both_ways false refl e)
all_four P true false c d e f = absurd (both_ways false refl e)
all_four P false b c d e f = absurd (both_ways false refl e)

module _ (K : Ops) (bytes : List ℕ) (small : (k : ℕ) → get_or bytes k 0 < 256) where
  -- at the header that the bytes write
  at_fields : (l : 10 ≤ length bytes) → sensible (fields bytes l small) ≡ true → GoodBody K (count (fields bytes l small)) (drop 10 bytes) → Whole K (fields bytes l small) (drop 10 bytes)
  at_fields l e G =
      let H : Header = fields bytes l small in
      let s0 = small 0 in
      let s1 = small 1 in
      let s2 = small 2 in
      let n = length_listed (count H) (value_in K.width (drop 10 bytes)) in
      all_four (Whole K H (drop 10 bytes)) (leb H.settings.rows 1) (leb H.settings.m H.settings.n) (leb H.number H.settings.n) (leb H.length 4096) e
      (λ a b c d. record {
        lawful = record { kind = leb-true H.settings.rows 1 a; some = omega arith; needed = omega arith; enough = leb-true H.settings.m H.settings.n b; made = omega arith };
        least = omega arith;
        most = leb-true H.number H.settings.n c;
        short = leb-true H.length 4096 d;
        long = G.long;
        codes = λ k h. subst (λ (v : ℕ). v < K.order) (get_d_listed (count H) (value_in K.width (drop 10 bytes)) k h) (G.holds.codes k (omega arith));
      })

  pub whole : Accepts K bytes → Whole K (header_in bytes) (drop 10 bytes)
  whole A =
      let l = A.headed.long in
      let eh : header_in bytes ≡ fields bytes l small = header_of bytes l small in
      subst (λ (H : Header). Whole K H (drop 10 bytes)) (sym eh)
      (at_fields l (ap sensible (sym eh) ∙ A.header) (subst (λ (H : Header). GoodBody K (count H) (drop 10 bytes)) eh A.body))

-- the same of the parts that were read of them
pub whole_as : (K : Ops) (bytes : List ℕ) → ((k : ℕ) → get_or bytes k 0 < 256) → (H : Header) (body : List ℕ) → H ≡ header_in bytes → body ≡ drop 10 bytes → Accepts K bytes → Whole K H body
whole_as K bytes small H body eh eb A =
    subst (λ (J : Header). Whole K J body) (sym eh)
    (subst (λ (b : List ℕ). Whole K (header_in bytes) b) (sym eb) (whole K bytes small A))
