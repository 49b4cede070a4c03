-- Bytes that are moved piece by piece.
use Rattle.std.proofs.Common.{◌≡◌, ℕ, ◌+◌, ◌-◌, ◌≤◌, List, [], ◌++◌, Option, length, take, drop, sym, ap, subst, ◌∙◌, append-nil, take-append-drop, drop-drop, take_at, length-take-le}
use lib.Seq.{take-add}
use Rattle.std.proofs.lemmas.List.{take_rest}
use Rattle.std.proofs.KnownBytes.{Appends-trans, Consumes-trans}
use Rattle.ed_io.specs.Bytes.{Took, Added, AddedFront}

-- what was copied from the bytes after a position is what a reader of them took
pub taken_front : (all bytes moved rest : List ℕ) (at n : ℕ) → all ≡ bytes → moved ≡ take n (take (length all - at) (drop at all))
    → n ≤ length (take (length all - at) (drop at all)) → drop at bytes ≡ take n (moved ++ rest) ++ drop (at + n) bytes
taken_front all bytes moved rest at n same is fits =
    let part = drop at all in
    let unread : take (length all - at) part ≡ part = take_rest all at in
    let moved_is : moved ≡ take n part = is ∙ ap (take n) unread in
    let long : length moved ≡ n = ap length moved_is ∙ length-take-le n part (subst (λ l. n ≤ length l) unread fits) in
    let front : take n (moved ++ rest) ≡ take n part = take_at moved rest n long ∙ moved_is in
    let whole : take n (moved ++ rest) ++ drop (at + n) all ≡ part =
    ap (λ l. l ++ drop (at + n) all) front ∙ ap (λ l. take n part ++ l) (sym (drop-drop n at all)) ∙ take-append-drop n part in
    subst (λ l. drop at l ≡ take n (moved ++ rest) ++ drop (at + n) l) same (sym whole)

-- a read into the place after the filled front
pub Took-more : (a b c : Option (List ℕ)) (old new : List ℕ) (filled n : ℕ) → take filled new ≡ take filled old
    → Took a (take filled old) b → Took b (take n (drop filled new)) c → Took a (take (filled + n) new) c
Took-more a b c old new filled n front before read =
    let joined : take filled old ++ take n (drop filled new) ≡ take (filled + n) new =
    ap (λ l. l ++ take n (drop filled new)) (sym front) ∙ sym (take-add filled n new) in
    subst (λ l. Took a l c) joined (Consumes-trans a b c _ _ before read)

-- a write of a piece of what is left
pub Added-more : (a b c : Option (List ℕ)) (bytes : List ℕ) (done n : ℕ) → Added a (take done bytes) b
    → Added b (take n (take (length bytes - done) (drop done bytes))) c → Added a (take (done + n) bytes) c
Added-more a b c bytes done n before write =
    let joined : take done bytes ++ take n (take (length bytes - done) (drop done bytes)) ≡ take (done + n) bytes =
    ap (λ l. take done bytes ++ take n l) (take_rest bytes done) ∙ sym (take-add done n bytes) in
    subst (λ l. Added a l c) joined (Appends-trans a b c _ _ before write)

-- a call that added none, after some were added
pub Added-none : (a b c : Option (List ℕ)) (bytes : List ℕ) → Added a bytes b → Added b [] c → Added a bytes c
Added-none a b c bytes before none = subst (λ l. Added a l c) (append-nil bytes) (Appends-trans a b c _ _ before none)

-- a beginning was added, and then a write failed
pub AddedFront-cut : (a b c : Option (List ℕ)) (bytes : List ℕ) (done : ℕ) → Added a (take done bytes) b → Added b [] c → AddedFront a bytes c
AddedFront-cut a b c bytes done before none =
    (take done bytes, (drop done bytes, take-append-drop done bytes), Added-none a b c (take done bytes) before none)
