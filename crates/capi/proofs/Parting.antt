-- Bytes parted into pieces. Assumes nothing.
use Rattle.std.proofs.Common.{◌≡◌, ℕ, zero, suc, ◌+◌, ◌-◌, ◌<◌, ◌≤◌, min, Bool, cond, List, [], ◌∷◌, ◌++◌, length, take, drop, set, sym, refl, ap, ◌∙◌, append_assoc, arith, length-set, Bor}
use Rattle.std.proofs.lemmas.List.{append-nil, drop_all, map-append, take_all, take_more_set}
use native.Mathlib.Decide.{dec_lt}
use Rattle.std.proofs.lemmas.Bool.{eq-eqb, ne_eqb}
use Rattle.collection.specs.Joining.{bytes_in}
use Rattle.capi.specs.Joined.{parted}

-- n parts are in the list, which has room for so many, and what is left is still to be parted
pub record PartedTo (most each : ℕ) (pieces : List ℕ) (n : ℕ) (list : List (Bor (List ℕ))) (rest : List ℕ) : Type 0 where
  pub size : length list ≡ most
  pub parts : bytes_in (take n list) ++ parted (most - n) each rest ≡ parted most each pieces

pub parted_none : (most each : ℕ) (pieces : List ℕ) (list : List (Bor (List ℕ))) → length list ≡ most → PartedTo most each pieces 0 list pieces
parted_none most each pieces list e = record { size = e; parts = let z : most - 0 ≡ most = omega arith in ap (λ (m : ℕ). parted m each pieces) z }

parted_step : (n each : ℕ) (rest : List ℕ) → 0 < length rest → parted (suc n) each rest ≡ take each rest ∷ parted n each (drop each rest)
unfolding parted
parted_step n each rest l =
    ap (λ (b : Bool). cond b [] (take each rest ∷ parted n each (drop each rest))) (ne_eqb (length rest) 0 (λ e. omega arith))

parted_end : (n each : ℕ) (rest : List ℕ) → length rest ≡ 0 → parted n each rest ≡ []
unfolding parted
parted_end zero each rest e = refl
parted_end (suc n) each rest e = ap (λ (b : Bool). cond b [] (take each rest ∷ parted n each (drop each rest))) (eq-eqb (length rest) 0 e)

parted_zero : (each : ℕ) (rest : List ℕ) → parted 0 each rest ≡ []
unfolding parted
parted_zero each rest = refl

pub parted_more : (most each : ℕ) (pieces : List ℕ) (n : ℕ) (list : List (Bor (List ℕ))) (rest back : List ℕ) (front : Bor (List ℕ)) → n < most → 0 < length rest
    → front.now ≡ take each rest → back ≡ drop each rest → PartedTo most each pieces n list rest → PartedTo most each pieces (n + 1) (set list n front) back
parted_more most each pieces n list rest back front ln some ef eb h =
    let left : most - n ≡ suc (most - (n + 1)) = omega arith in
    let k : ℕ = most - (n + 1) in
    let taken : bytes_in (take (n + 1) (set list n front)) ≡ bytes_in (take n list) ++ (take each rest ∷ [])
    = ap bytes_in (take_more_set list n front (omega (arith, h.size))) ∙ (map-append (λ p. p.now) (take n list) (front ∷ []) ∙ ap (λ (x : List ℕ). bytes_in (take n list) ++ (x ∷ [])) ef) in
    record {
      size = length-set list n front ∙ h.size;
      parts =
          ap (λ (xs : List (List ℕ)). xs ++ parted k each back) taken
          ∙ (append_assoc (bytes_in (take n list)) (take each rest ∷ []) (parted k each back)
          ∙ (ap (λ (b : List ℕ). bytes_in (take n list) ++ (take each rest ∷ parted k each b)) eb
          ∙ (ap (λ (xs : List (List ℕ)). bytes_in (take n list) ++ xs) (sym (parted_step k each rest some))
          ∙ (ap (λ (m : ℕ). bytes_in (take n list) ++ parted m each rest) (sym left) ∙ h.parts))));
    }

-- at the end the list has all parts
parted_all : (most each : ℕ) (pieces : List ℕ) (n : ℕ) (list : List (Bor (List ℕ))) (rest : List ℕ) → PartedTo most each pieces n list rest
    → parted (most - n) each rest ≡ [] → bytes_in (take n list) ≡ parted most each pieces
parted_all most each pieces n list rest h e = sym (append-nil (bytes_in (take n list))) ∙ (ap (λ (xs : List (List ℕ)). bytes_in (take n list) ++ xs) (sym e) ∙ h.parts)

pub full_list : (most each : ℕ) (pieces : List ℕ) (n : ℕ) (list : List (Bor (List ℕ))) (rest : List ℕ) → most ≤ n → PartedTo most each pieces n list rest → bytes_in (take n list) ≡ parted most each pieces
full_list most each pieces n list rest l h =
    parted_all most each pieces n list rest h (ap (λ (m : ℕ). parted m each rest) (let z : most - n ≡ 0 = omega arith in z) ∙ parted_zero each rest)

pub no_rest : (most each : ℕ) (pieces : List ℕ) (n : ℕ) (list : List (Bor (List ℕ))) (rest : List ℕ) → length rest ≤ 0 → PartedTo most each pieces n list rest → bytes_in (take n list) ≡ parted most each pieces
no_rest most each pieces n list rest l h = parted_all most each pieces n list rest h (parted_end (most - n) each rest (omega arith))

-- a part of this length, or of all that there is
pub front_part : (each : ℕ) (rest : List ℕ) → take (min each (length rest)) rest ≡ take each rest
front_part each rest = elim (dec_lt each (length rest)) [
  | yes l ↦ let z : min each (length rest) ≡ each = omega arith in ap (λ (m : ℕ). take m rest) z
  | no n ↦ let z : min each (length rest) ≡ length rest = omega arith in ap (λ (m : ℕ). take m rest) z ∙ (take_all (length rest) rest (omega arith) ∙ sym (take_all each rest (omega arith)))
]

pub back_part : (each : ℕ) (rest : List ℕ) → drop (min each (length rest)) rest ≡ drop each rest
back_part each rest = elim (dec_lt each (length rest)) [
  | yes l ↦ let z : min each (length rest) ≡ each = omega arith in ap (λ (m : ℕ). drop m rest) z
  | no n ↦ let z : min each (length rest) ≡ length rest = omega arith in ap (λ (m : ℕ). drop m rest) z ∙ (drop_all (length rest) rest (omega arith) ∙ sym (drop_all each rest (omega arith)))
]
