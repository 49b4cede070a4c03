-- The numbers of a stock in which versions are made.
use Rattle.std.proofs.Common.{◌≡◌, ℕ, suc, ◌+◌, ◌<◌, List, [], ◌∷◌, length, fold, sym, ap, ◌∙◌, subst, inl, inr, arith, length-set}
use Rattle.std.specs.List.{AllByRecursion as Each}
use Rattle.std.proofs.lemmas.Bool.{cases_eq}
use Rattle.ed_base.specs.ChangeList.{ChangeList, inserted_len}
use Rattle.ed_layers.specs.Records.{Record}
use Rattle.ed_stock.specs.Stock.{Stock, buffer, count}
use Rattle.ed_stock.specs.Versions.{with_version}
use Rattle.ed_climb.specs.Counted.{AreCounts, counts_after, counts_with}
use Rattle.ed_risen.specs.Counting.{tracked_in}
use Rattle.ed_risen.specs.Growing.{Grows}
use Rattle.ed_held.specs.Moves.{changes_of, record_of, with_move}
use Rattle.ed_climb.specs.declared.counts.Counts.{Counts}
use Rattle.ed_held.specs.declared.moves.Move.{Move}
use Rattle.ed_risen.proofs.Counting.{inserted_with, placements_with, versions_with}
use Rattle.ed_risen.proofs.Growth.{grown_length, version_grows}

pub moved_count : (s : Stock) (m : Move) → count (with_move s m) ≡ count s
unfolding with_version
moved_count s m = length-set s.buffers m.buffer _

module _ (s : Stock) (m : Move) (there : m.buffer < count s) where
  abbrev r : Record
  r = record_of m.planned

  abbrev c : ChangeList
  c = changes_of m.planned

  grows : Grows s (with_move s m) m.buffer r
  grows = version_grows s m.buffer r c there

  moved_records : ((b : ℕ) → b < count s → 0 < length (buffer s b).records) → (b : ℕ) → b < count (with_move s m) → 0 < length (buffer (with_move s m) b).records
  moved_records some b below = elim (cases_eq b m.buffer) [
    | inl e ↦ subst (λ d. 0 < length (buffer (with_move s m) d).records) (sym e) (let l : length (buffer (with_move s m) m.buffer).records ≡ suc (length (buffer s m.buffer).records) = grown_length s (with_move s m) m.buffer r grows in omega arith)
    | inr ne ↦ subst (λ rs. 0 < length rs) (sym (grows.others b ne)) (some b (subst (λ n. b < n) (moved_count s m) below))
  ]

  moved_counts : (n : Counts) → AreCounts n s → ((b : ℕ) → b < count s → 0 < length (buffer s b).records) → AreCounts (counts_with n m.planned) (with_move s m)
  moved_counts n are some = record {
    inserted = ap (λ k. k + inserted_len c) are.inserted ∙ sym (inserted_with s m.buffer r c there (some m.buffer there));
    versions = ap (λ k. k + 1) are.versions ∙ sym (versions_with s m.buffer r c there);
    placements = ap (λ k. k + (tracked_in r + length c.changes)) are.placements ∙ sym (placements_with s m.buffer r c there);
  }

pub all_counts : (ms : List Move) (s : Stock) (n : Counts) → Each (λ m. m.buffer < count s) ms → AreCounts n s → ((b : ℕ) → b < count s → 0 < length (buffer s b).records) → AreCounts (counts_after n ms) (fold with_move s ms)
all_counts [] s n all are some = are
all_counts (m ∷ ms) s n all are some =
    all_counts ms (with_move s m) (counts_with n m.planned) (still ms all.1) (moved_counts s m all.0 n are some) (moved_records s m all.0 some)
  where
    still : (ns : List Move) → Each (λ k. k.buffer < count s) ns → Each (λ k. k.buffer < count (with_move s m)) ns
    still [] h = tt
    still (k ∷ ns) h = (subst (λ x. k.buffer < x) (sym (moved_count s m)) h.0, still ns h.1)
