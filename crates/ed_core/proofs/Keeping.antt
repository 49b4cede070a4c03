-- What makes versions keeps the buffers and the number of their regions.
use Rattle.std.proofs.Common.{◌≡◌, ℕ, List, [], ◌∷◌, fold, Option, refl, ◌∙◌, length-set, Bool, true, false}
use Rattle.std.proofs.lemmas.List.{length-map}
use Rattle.ed_base.specs.declared.edit.Span.{Span}
use Rattle.ed_base.specs.declared.piece.Member.{Member}
use Rattle.ed_base.specs.declared.piece.Piece.{Piece}
use Rattle.ed_base.specs.ChangeList.{ChangeList}
use Rattle.ed_layers.specs.Records.{Record, base, projection, elision}
use Rattle.ed_stock.specs.Stock.{Stock, Buffer, buffer, record_now, with_buffer, graph_order}
use Rattle.ed_stock.specs.Versions.{Rising, with_version, with_record, risen, risen_at, is_moved}
use Rattle.ed_stock.specs.Landing.{landed, landed_at, bases_reached}
use Rattle.ed_stock.specs.Making.{elide_set, hidden_set, is_same_set, spans_set}
use Rattle.ed_core.specs.Keeping.{HasAsMany, Keeps}
use Rattle.ed_core.proofs.Lists.{at-set}

as-many : (x : Buffer) → HasAsMany x x
as-many x = record { live = refl; given = refl }

keeps-same : (s : Stock) → Keeps s s
keeps-same s = record { count = refl; regions = λ b. as-many (buffer s b) }

pub keeps-through : (s t u : Stock) → Keeps s t → Keeps t u → Keeps s u
keeps-through s t u k l = record {
  count = l.count ∙ k.count;
  regions = λ b. record { live = (l.regions b).live ∙ (k.regions b).live; given = (l.regions b).given ∙ (k.regions b).given };
}

-- a buffer is put in place of one with as many regions
keeps-buffer : (s : Stock) (b : ℕ) (x : Buffer) → HasAsMany (buffer s b) x → Keeps s (with_buffer s b x)
keeps-buffer s b x same = record {
  count = length-set s.buffers b x;
  regions = λ c. at-set (λ k y. HasAsMany (buffer s k) y) s.buffers b x _ same (λ k. as-many (buffer s k)) c;
}

keeps-version : (s : Stock) (b : ℕ) (r : Record) (c : ChangeList) → Keeps s (with_version s b r c)
unfolding with_version
keeps-version s b r c = keeps-buffer s b _ (record { live = length-map (buffer s b).regions _; given = refl })

keeps-fold : (f : Rising → ℕ → Rising) → ((r : Rising) (b : ℕ) → Keeps r.stock (f r b).stock) → (r : Rising) (bs : List ℕ) → Keeps r.stock (fold f r bs).stock
keeps-fold f one r [] = keeps-same r.stock
keeps-fold f one r (b ∷ bs) = keeps-through r.stock (f r b).stock (fold f (f r b) bs).stock (one r b) (keeps-fold f one (f r b) bs)

keeps-record : (r : Rising) (b : ℕ) (stays : ℕ → Option ℕ) (new : Record) → Keeps r.stock (with_record r b stays new).stock
unfolding with_record
keeps-record r b stays new = keeps-version r.stock b new _

keeps-risen_at : (given : ℕ → Option ℕ) (r : Rising) (b : ℕ) → Keeps r.stock (risen_at given r b).stock
keeps-risen_at given r b = by_moved (is_moved r b) refl
  where
    by_moved : (m : Bool) → is_moved r b ≡ m → Keeps r.stock (risen_at given r b).stock
    by_moved true e = rw e (keeps-record r b _ _)
    by_moved false e = rw e (keeps-same r.stock)

keeps-risen : (given : ℕ → Option ℕ) (r : Rising) → Keeps r.stock (risen given r).stock
unfolding risen
keeps-risen given r = keeps-fold (risen_at given) (keeps-risen_at given) r (graph_order r.stock)

pub keeps-landed : (s : Stock) (pending : List (ℕ × Piece)) (reiterated given : ℕ → Option ℕ) → Keeps s (landed s pending reiterated given).stock
unfolding landed
keeps-landed s pending reiterated given =
    let r : Rising = record { stock = s; moves = [] } in
    let l : Rising = fold (landed_at pending reiterated) r (bases_reached s pending) in
    keeps-through s l.stock (risen given l).stock (keeps-fold (landed_at pending reiterated) (λ q b. keeps-version q.stock b _ _) r (bases_reached s pending)) (keeps-risen given l)

pub keeps-spans_set : (s : Stock) (b first count : ℕ) (added : List Member) → Keeps s (spans_set s b first count added).stock
unfolding spans_set
keeps-spans_set s b first count added =
    keeps-through s _ (spans_set s b first count added).stock (keeps-through s _ _ (keeps-record (record { stock = s; moves = [] }) b _ _) (keeps-risen _ _)) (keeps-buffer _ b _ (record { live = refl; given = refl }))

keeps-hidden_set : (s : Stock) (b : ℕ) (r : Record) (new : List Bool) → Keeps s (hidden_set s b r new).stock
keeps-hidden_set s b (base text reiterated) new = keeps-same s
keeps-hidden_set s b (projection members sources) new = keeps-same s
keeps-hidden_set s b (elision flags source version) new = by_same (is_same_set flags new) refl
  where
    by_same : (same : Bool) → is_same_set flags new ≡ same → Keeps s (hidden_set s b (elision flags source version) new).stock
    by_same true e = rw e (keeps-same s)
    by_same false e = rw e (keeps-through s _ _ (keeps-through s _ _ (keeps-record (record { stock = s; moves = [] }) b _ _) (keeps-risen _ _)) (keeps-buffer _ b _ (record { live = refl; given = refl })))

pub keeps-elide_set : (s : Stock) (b : ℕ) (hide show : List Span) → Keeps s (elide_set s b hide show).stock
unfolding elide_set
keeps-elide_set s b hide show = keeps-hidden_set s b (record_now s b) _
