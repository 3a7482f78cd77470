-- Steps of the reader. Assumes nothing.
use Rattle.std.proofs.Common.{◌≡◌, ℕ, ◌<◌, ◌≤◌, true, leb, List, [], ◌∷◌, length, get_or, drop, sym, ap, ◌∙◌, subst, arith, leb-true}
use Rattle.field.specs.Laws.{Ops}
use Rattle.piece.specs.declared.fault.ReadFault.{ReadFault}
use Rattle.piece.specs.declared.fault.ReadFault.TheVariants as fault
use Rattle.piece.proofs.Ranges.{second_of}
use Rattle.piece.specs.declared.Header.{Header}
use Rattle.piece.specs.Reading.{code_in, header_in, count, sensible, Headed, GoodBody, BadBody, Accepts, Refuses}
use Rattle.piece.proofs.Fields.{code_is, header_is, code_of, header_of}

-- the ten bytes named are the header of the whole
module _ (xs : List ℕ) (l : 10 ≤ length xs) (small : (k : ℕ) → get_or xs k 0 < 256) where
  abbrev pub ten : List ℕ
  ten = get_or xs 0 0 ∷ get_or xs 1 0 ∷ get_or xs 2 0 ∷ get_or xs 3 0 ∷ get_or xs 4 0 ∷ get_or xs 5 0 ∷ get_or xs 6 0 ∷ get_or xs 7 0 ∷ get_or xs 8 0 ∷ get_or xs 9 0 ∷ []

  pub same_code : code_in ten ≡ code_in xs
  same_code =
      code_is _ _ _ _ _ _ _ _ _ _ [] (small 0) (small 1) (small 2) (small 3) (small 4) (small 5) (small 6) (small 7) (small 8) (small 9) ∙ sym (code_of xs l small)

  pub same_header : header_in ten ≡ header_in xs
  same_header =
      header_is _ _ _ _ _ _ _ _ _ _ [] (small 0) (small 1) (small 2) (small 3) (small 4) (small 5) (small 6) (small 7) (small 8) (small 9) ∙ sym (header_of xs l small)

  -- m is at least 1, by its field
  pub some : 1 ≤ (header_in xs).settings.m
  some = subst (λ (H : Header). 1 ≤ H.settings.m) (sym (header_of xs l small)) (omega arith)

  pub few : (header_in xs).settings.m ≤ 16
  few = subst (λ (H : Header). H.settings.m ≤ 16) (sym (header_of xs l small)) (omega arith)

pub short_if_sensible : (H : Header) → sensible H ≡ true → H.length ≤ 4096
short_if_sensible H e = leb-true H.length 4096 (second_of (leb H.number H.settings.n) _ (second_of (leb H.settings.m H.settings.n) _ (second_of (leb H.settings.rows 1) _ e)))

-- the verdict on header and body is the verdict on the bytes
module _ (K : Ops) (xs : List ℕ) (H : Header) (body : List ℕ) where
  pub accepted : body ≡ drop 10 xs → H ≡ header_in xs → Headed K xs → sensible H ≡ true → GoodBody K (count H) body → Accepts K xs
  accepted eb eh headed s g = record {
    headed = headed;
    header = ap sensible (sym eh) ∙ s;
    body = subst (λ (B : List ℕ). GoodBody K (count (header_in xs)) B) eb (subst (λ (J : Header). GoodBody K (count J) body) eh g);
  }

  pub refused : (f : ReadFault) → body ≡ drop 10 xs → H ≡ header_in xs → Headed K xs → sensible H ≡ true → BadBody K (count H) body f → Refuses K xs f
  refused (fault.Short len) eb eh headed s g = absurd g
  refused (fault.Field code wants) eb eh headed s g = absurd g
  refused (fault.Header rows m n i len) eb eh headed s g = absurd g
  refused (fault.Body has needs) eb eh headed s g = (
    headed,
    ap sensible (sym eh) ∙ s,
    subst (λ (B : List ℕ). BadBody K (count (header_in xs)) B (fault.Body has needs)) eb (subst (λ (J : Header). BadBody K (count J) body (fault.Body has needs)) eh g),
  )
  refused (fault.Value at) eb eh headed s g = (
    headed,
    ap sensible (sym eh) ∙ s,
    subst (λ (B : List ℕ). BadBody K (count (header_in xs)) B (fault.Value at)) eb (subst (λ (J : Header). BadBody K (count J) body (fault.Value at)) eh g),
  )
