-- A collection that is fed a list of pieces. Assumes nothing.
use Rattle.std.proofs.Common.{Ok, Err, Result, ◌≡◌, ℕ, ◌+◌, ◌<◌, List, [], ◌∷◌, map, length, get_or, take, sym, ap, ◌∙◌, subst, arith, Bor}
use native.Mathlib.Decide.{ℕ_discrete}
use Rattle.std.proofs.lemmas.List.{get_or-map, length-map, map-append, take_more}
use Rattle.std.specs.Result.{IsErrAnd, MatchResult}
use Rattle.std.proofs.lemmas.Result.{err_from_is_err_and}
use Rattle.field.specs.Laws.{Ops}
use Rattle.piece.specs.Layouts.{Bytes}
use Rattle.collection.specs.Adding.{Takes}
use Rattle.collection.specs.Collected.{Taken, field_numbers_of, read_of, with_piece}
use Rattle.collection.specs.Joining.{Feeds, bytes_in, fed}

-- what is said of a refusal goes on where it is given its place
pub mapped : {T E D : Type 0} (r : Result T E) (s : Result T D) (P P' : T → Type 0) (Q : E → Type 0) (Q' : D → Type 0) (post : E → D → Type 0)
    → MatchResult r (λ x. s ≡ Ok x) (λ e. IsErrAnd s (post e)) → MatchResult r P Q → ((x : T) → P x → P' x) → ((e : E) (d : D) → post e d → Q e → Q' d) → MatchResult s P' Q'
mapped (Ok x) s P P' Q Q' post e h p q = subst (λ z. MatchResult z P' Q') (sym e) (p x h)
mapped (Err d) s P P' Q Q' post e h p q =
    let i = err_from_is_err_and s e in
    subst (λ z. MatchResult z P' Q') (sym i.1) (q d i.0 i.2 h)

pub bytes_at : (pieces : List (Bor (List ℕ))) (i : ℕ) (d : Bor (List ℕ)) → d.now ≡ [] → i < length pieces → get_or (bytes_in pieces) i [] ≡ (get_or pieces i d).now
bytes_at pieces i d e l = get_or-map (λ p. p.now) pieces i d [] l

pub bytes_many : (pieces : List (Bor (List ℕ))) → length (bytes_in pieces) ≡ length pieces
bytes_many pieces = length-map pieces (λ p. p.now)

-- one piece more
pub fed_more : (K : Ops) (room : ℕ) (pieces : List (List ℕ)) (k : ℕ) → k < length pieces
    → fed K room pieces (k + 1) ≡ with_piece (fed K room pieces k) (read_of K (get_or pieces k []))
fed_more K room pieces k l =
    ap (λ (ps : List Taken). record { field = field_numbers_of K; room = room; taken = ps })
    (ap (λ (xs : List (List ℕ)). map (read_of K) xs) (take_more pieces k [] l) ∙ map-append (read_of K) (take k pieces) (get_or pieces k [] ∷ []))

pub feeds_more : (K : Ops) (room : ℕ) (pieces : List (List ℕ)) (k : ℕ) → Feeds K room pieces k → Takes K (fed K room pieces k) (get_or pieces k []) → Bytes (get_or pieces k [])
    → Feeds K room pieces (k + 1)
feeds_more K room pieces k h here bytes = record {
  takes = λ t l. elim (ℕ_discrete t k) [
    | yes e ↦ subst (λ (x : ℕ). Takes K (fed K room pieces x) (get_or pieces x [])) (sym e) here
    | no n ↦ h.takes t (omega arith)
  ];
  bytes = λ t l. elim (ℕ_discrete t k) [
    | yes e ↦ subst (λ (x : ℕ). Bytes (get_or pieces x [])) (sym e) bytes
    | no n ↦ h.bytes t (omega arith)
  ];
}
