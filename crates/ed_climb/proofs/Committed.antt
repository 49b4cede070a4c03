-- A group that is made leaves what was planned.
use Rattle.std.proofs.Common.{◌≡◌, ◌≢◌, ℕ, zero, suc, ◌<◌, ◌^◌, List, [], ◌∷◌, ◌++◌, length, map, Option, Some, None, refl, sym, ap, ◌∙◌, subst, arith, inl, inr}
use Rattle.std.specs.Prelude.{fold, slice_get, slice_set, unwrap_or, MatchOption, take, drop}
use Rattle.std.specs.Option.{option_map_or}
use Rattle.std.specs.List.{AllByRecursion as Each}
use Rattle.std.proofs.lemmas.Bool.{cases_eq}
use Rattle.std.proofs.lemmas.List.{append-nil, drop_all, take_all}
use Rattle.std.proofs.lemmas.Option.{slice_get_within}
use Rattle.ed_base.specs.Denial.{regions_after}
use Rattle.ed_base.specs.ChangeList.{step}
use Rattle.ed_stock.specs.Stock.{Stock, Buffer, buffer, record_at, with_buffer}
use Rattle.ed_stock.specs.Versions.{with_version}
use Rattle.ed_held.specs.declared.held.Held.{Held}
use Rattle.ed_held.specs.declared.moves.Move.{Move}
use Rattle.ed_climb.specs.Group.{Plan, IsPlanned, known_after, known_made, known_moved, outcome, set_known, MayTurn}
use Rattle.ed_held.specs.Making.{known_grown, known_turned, CanTurn}
use Rattle.ed_risen.specs.Counting.{turn, turned_in}
use Rattle.ed_climb.specs.Kept.{IsKept}
use Rattle.ed_risen.specs.Laws.{CurrentVector, OneVector, RecordsStay}
use Rattle.ed_held.specs.Moves.{CanMake, IsPlannedAt, changes_of, record_of, with_move}
use Rattle.ed_risen.specs.Rising.{IsSettled}
use Rattle.ed_held.specs.Seen.{Known, known, stock, stock_of}
use Rattle.ed_risen.proofs.Settled.{current_vector, records_stay}
use Rattle.ed_risen.proofs.Growth.{missing, set_here, set_other}
use Rattle.ed_risen.proofs.Lists.{get_map}
use Rattle.ed_risen.proofs.RisingLemmas.{stays}
use Rattle.ed_risen.proofs.Turns.{turns}

-- ---- what is known of one buffer, changed

pub set_map : {X Y : Type 0} (f : X → Y) (xs : List X) (i : ℕ) (x : X) → map f (slice_set xs i x) ≡ slice_set (map f xs) i (f x)
set_map f [] i x = refl
set_map f (y ∷ ys) zero x = refl
set_map f (y ∷ ys) (suc i) x = ap (λ zs. f y ∷ zs) (set_map f ys i x)

abbrev buffers_of : List Known → List Buffer
buffers_of ks = map (λ k. k.buffer) ks

abbrev at_in : List Known → ℕ → Buffer
at_in ks b = unwrap_or (slice_get (buffers_of ks) b) missing

none_set : {X : Type 0} (xs : List X) (b : ℕ) (x : X) → slice_get xs b ≡ None → slice_set xs b x ≡ xs
none_set [] b x h = refl
none_set (y ∷ ys) zero x h = absurd (cc)
none_set (y ∷ ys) (suc b) x h = ap (λ zs. y ∷ zs) (none_set ys b x h)

get_buffers : (ks : List Known) (b : ℕ) (o : Option Known) → slice_get ks b ≡ o → slice_get (buffers_of ks) b ≡ option_map_or (λ k. Some k.buffer) o None
get_buffers [] b o h = ap (λ p. option_map_or (λ k. Some k.buffer) p None) h
get_buffers (k ∷ ks) zero o h = ap (λ p. option_map_or (λ l. Some l.buffer) p None) h
get_buffers (k ∷ ks) (suc b) o h = get_buffers ks b o h

module _ (f : Known → Known) (g : Buffer → Buffer) (same : (k : Known) → (f k).buffer ≡ g k.buffer) (b : ℕ) (ks : List Known) where
  buffers_set : (o : Option Known) → slice_get ks b ≡ o → buffers_of (option_map_or (λ k. slice_set ks b (f k)) o ks) ≡ slice_set (buffers_of ks) b (g (at_in ks b))
  buffers_set None h = sym (none_set (buffers_of ks) b (g (at_in ks b)) (get_buffers ks b None h))
  buffers_set (Some k) h =
      set_map (λ l. l.buffer) ks b (f k)
      ∙ ap (slice_set (buffers_of ks) b) (same k ∙ ap (λ o. g (unwrap_or o missing)) (sym (get_buffers ks b (Some k) h)))

  pub stock_set : stock_of (set_known f b ks) ≡ with_buffer (stock_of ks) b (g (buffer (stock_of ks) b))
  stock_set = ap with_these (buffers_set (slice_get ks b) refl)
    where
      with_these : List Buffer → Stock
      with_these bs = record { buffers = bs; most_buffers = 64; most_versions = 2 ^ 18 }

-- one that is held and changed
pub known_set : (f : Known → Known) (hs : List Held) (b : ℕ) (old new : Held) → slice_get hs b ≡ Some old → known new ≡ f (known old) → map known (slice_set hs b new) ≡ set_known f b (map known hs)
known_set f hs b old new is changed =
    set_map known hs b new ∙ ap (slice_set (map known hs) b) changed ∙ sym (ap (λ o. option_map_or (λ k. slice_set (map known hs) b (f k)) o (map known hs)) (get_map known hs b old is))

pub set_others : (hs : List Held) (b : ℕ) (new : Held) (a : ℕ) → b ≢ a → slice_get (slice_set hs b new) a ≡ slice_get hs a
set_others hs b new a apart = set_other hs b a new (λ e. apart (sym e))

pub set_turning : (hs : List Held) (b : ℕ) (old new : Held) → slice_get hs b ≡ Some old → (CanTurn old → CanTurn new) → (a : ℕ) → MayTurn hs a → MayTurn (slice_set hs b new) a
set_turning hs b old new is turns a may = elim (cases_eq a b) [
  | inl same ↦ subst (MayTurn (slice_set hs b new)) (sym same) (subst (λ o. MatchOption o ⊥ CanTurn) (sym (set_here hs b new (slice_get_within hs b old is))) (turns (subst (λ o. MatchOption o ⊥ CanTurn) is (subst (MayTurn hs) same may))))
  | inr apart ↦ subst (λ o. MatchOption o ⊥ CanTurn) (sym (set_other hs b a new apart)) may
]

-- a number of a buffer that is there
pub matched_below : {X : Type 0} (P : X → Type 0) (xs : List X) (b : ℕ) → MatchOption (slice_get xs b) ⊥ P → b < length xs
matched_below P [] b h = absurd h
matched_below P (x ∷ xs) zero h = omega arith
matched_below P (x ∷ xs) (suc b) h = let l : b < length xs = matched_below P xs b h in omega arith

-- a version that was planned of one buffer stays so while others are changed
pub each_stays : (hs hs' : List Held) (m : Move) (ms : List Move) → ((b : ℕ) → m.buffer ≢ b → slice_get hs' b ≡ slice_get hs b) → Each (λ n. n.buffer ≢ m.buffer) ms → Each (IsPlannedAt hs) ms → Each (IsPlannedAt hs') ms
each_stays hs hs' m [] others apart planned = tt
each_stays hs hs' m (n ∷ ns) others apart planned =
    (subst (λ o. MatchOption o ⊥ (λ h. CanMake h n.planned)) (sym (others n.buffer (λ e. apart.0 (sym e)))) planned.0, each_stays hs hs' m ns others apart.1 planned.1)

-- ---- all of a group

stock_moved : (ks : List Known) (m : Move) → stock_of (known_moved ks m) ≡ with_move (stock_of ks) m
unfolding with_version
stock_moved ks m = stock_set (λ k. known_grown k m) (λ x. record x { records = x.records ++ record_of m.planned ∷ []; changes = x.changes ++ changes_of m.planned ∷ []; regions = regions_after (step (changes_of m.planned)) x.regions }) (λ k. refl) m.buffer ks

pub stock_folded : (ks : List Known) (ms : List Move) → stock_of (fold known_moved ks ms) ≡ fold with_move (stock_of ks) ms
stock_folded ks [] = refl
stock_folded ks (m ∷ ms) = stock_folded (known_moved ks m) ms ∙ ap (λ s. fold with_move s ms) (stock_moved ks m)

pub stock_after : (ks : List Known) (g : Plan) → stock_of (known_after ks g) ≡ outcome (stock_of ks) g
stock_after ks g = by g.turned
  where
    moved : List Known
    moved = fold known_moved ks g.moves

    by : (o : Option ℕ) → stock_of (option_map_or (λ b. set_known known_turned b moved) o moved) ≡ turned_in (fold with_move (stock_of ks) g.moves) o
    by None = stock_folded ks g.moves
    by (Some b) = stock_set known_turned turn (λ k. refl) b moved ∙ ap (λ s. turned_in s (Some b)) (stock_folded ks g.moves)

-- ---- a slice that was written to, as part of the list that it was taken of

pub written : {X : Type 0} (n : ℕ) (new old : List X) → length new ≡ n → length old ≡ n → take n (new ++ drop (length new) old) ≡ new
written n new old h k =
    ap (λ xs. take n (new ++ xs)) (drop_all (length new) old (omega (arith, h, k))) ∙ ap (take n) (append-nil new) ∙ take_all n new (omega (arith, h))

-- ---- the group is made

pub may_turn : (old new : List Held) (turned : Option ℕ) → ((b : ℕ) → MayTurn old b → MayTurn new b) → MatchOption turned (Unit {0}) (MayTurn old) → MatchOption turned (Unit {0}) (MayTurn new)
may_turn old new None stays may = tt
may_turn old new (Some b) stays may = stays b may

pub made_known : (hs bs again new : List Held) (n : ℕ) (moves : List Move) (turned : Option ℕ) (g : Plan) → bs ≡ hs → again ≡ bs → length again ≡ n → length new ≡ length again → map known new ≡ known_made (map known again) moves turned
    → moves ≡ g.moves → turned ≡ g.turned → map known (take n (new ++ drop (length new) bs)) ≡ known_after (map known hs) g
made_known hs bs again new n moves turned g is same long len made ms which =
    ap (map known) (written n new bs (len ∙ long) (ap length (sym same) ∙ long)) ∙ made ∙ ap (λ ks. known_made (map known ks) moves turned) (same ∙ is)
    ∙ ap (λ xs. known_made (map known hs) xs turned) ms ∙ ap (known_made (map known hs) g.moves) which

module _ (hs hs' : List Held) (g : Plan) (planned : IsPlanned hs g) (made : map known hs' ≡ known_after (map known hs) g) where
  pub made_kept : IsKept (map known hs') g.graph g.counts
  made_kept = subst (λ ks. IsKept ks g.graph g.counts) (sym made) planned.kept

  pub made_stock : stock hs' ≡ outcome (stock hs) g
  made_stock = ap stock_of made ∙ stock_after (map known hs) g

  pub made_one : OneVector (stock hs')
  made_one = made_kept.one

  pub made_current : CurrentVector (stock hs')
  made_current = current_vector (stock hs') made_kept.settled.current made_kept.settled.some made_kept.settled.founded

  pub made_stay : IsSettled (stock hs) → RecordsStay (stock hs) (stock hs')
  made_stay settled = records_stay (stock hs) (stock hs') (subst (λ s. (b v : ℕ) (r : _) → record_at (stock hs) b v ≡ Some r → record_at s b v ≡ Some r) (sym made_stock) planned.extends) settled.founded
