-- A stock with a new base.
use Rattle.std.proofs.Common.{◌≡◌, ℕ, ◌+◌, List, [], ◌∷◌, ◌++◌, length, map, Option, Some, None, refl, sym, ◌∙◌, ap, subst, arith}
use Rattle.std.specs.Prelude.{unwrap_or}
use Rattle.std.proofs.lemmas.List.{length-map}
use Rattle.ed_base.specs.declared.Refusal.{Refusal}
use Rattle.ed_base.specs.Numbers.{first_some}
use Rattle.ed_base.specs.ChangeList.{ChangeList}
use Rattle.ed_buffer.specs.Planning.{Base}
use Rattle.ed_layers.specs.Records.{Record, base}
use Rattle.ed_stock.specs.Limits.{inserted, versions, placements, stock_limits}
use Rattle.ed_stock.specs.Stock.{Stock, buffer, now, record_at, text_at}
use Rattle.ed_readonly.specs.LiveRegions.{LiveRegions}
use Rattle.ed_version.specs.Chain.{opening}
use Rattle.ed_version.specs.declared.Version.{Version}
use Rattle.ed_group.specs.Answers.{base_fault, with_base}
use Rattle.ed_climb.specs.declared.counts.Counts.{Counts}
use Rattle.ed_held.specs.declared.held.Held.{Held}
use Rattle.ed_climb.specs.Kept.{IsKept}
use Rattle.ed_climb.specs.Limited.{new_limit}
use Rattle.ed_held.specs.Seen.{Known, base_record, known, stock, stock_of}
use Rattle.ed_climb.proofs.KeptNumbers.{graph_len}
use Rattle.ed_risen.proofs.Counting.{inserted_new_base, new_buffer, placements_new, versions_new}
use Rattle.ed_risen.proofs.Growth.{grown_last, grown_now, missing}
use Rattle.ed_risen.proofs.Lists.{get_past}
use Rattle.ed_group.proofs.NewBuffer.{new_grows, new_kept, new_stock}
use Rattle.ed_group.proofs.NewLimits.{limits_new}
use Rattle.ed_risen.proofs.Texts.{base_text}

-- the text of a base that is new
module _ (ks : List Known) (k : Known) (r : Record) (resolver : Option (List ℕ)) (buffer_is : k.buffer ≡ new_buffer r resolver) where
  abbrev t : Stock
  t = stock_of (ks ++ k ∷ [])

  pub new_first : now t (length ks) ≡ 0
  new_first =
      let g : now t (length ks) ≡ length (buffer (stock_of ks) (length ks)).records = grown_now (stock_of ks) t (length ks) r (new_grows ks k r resolver buffer_is) in
      g ∙ ap (λ o. length (unwrap_or o missing).records) (get_past (stock_of ks).buffers (length ks) (let e : length (stock_of ks).buffers ≡ length ks = length-map ks (λ (x : Known). x.buffer) in omega arith))

  new_record : record_at t (length ks) 0 ≡ Some r
  new_record =
      ap (record_at t (length ks)) (sym new_first ∙ grown_now (stock_of ks) t (length ks) r (new_grows ks k r resolver buffer_is)) ∙ grown_last (stock_of ks) t (length ks) r (new_grows ks k r resolver buffer_is)

module _ (ks : List Known) (graph : List (List ℕ)) (counts : Counts) (kept : IsKept ks graph counts) (units : List ℕ) where
  abbrev s : Stock
  s = stock_of ks

  abbrev opened : Known
  opened = record { number = length ks; buffer = new_buffer (base units 0) None; texts = units ∷ [] }

  abbrev with_it : Stock
  with_it = stock_of (ks ++ opened ∷ [])

  abbrev pub counts_with : Counts
  counts_with = record { inserted = counts.inserted + length units; versions = counts.versions + 1; placements = counts.placements + 0 }

  stock_is : with_it ≡ with_base s units
  stock_is = new_stock ks opened (base units 0) None refl

  text_first : text_at with_it (length ks) 0 ≡ units
  text_first = base_text (record_at with_it) (length ks) 0 units 0 (new_record ks opened (base units 0) None refl)

  inserted_is : counts_with.inserted ≡ inserted with_it
  inserted_is = let a : inserted with_it ≡ inserted (with_base s units) = ap inserted stock_is in let b : inserted (with_base s units) ≡ inserted s + length units = inserted_new_base s units 0 None in let d : counts.inserted ≡ inserted s = kept.inserted in omega arith

  versions_is : counts_with.versions ≡ versions with_it
  versions_is = let a : versions with_it ≡ versions (with_base s units) = ap versions stock_is in let b : versions (with_base s units) ≡ versions s + 1 = versions_new s (base units 0) None in let d : counts.versions ≡ versions s = kept.versions in omega arith

  placements_is : counts_with.placements ≡ placements with_it
  placements_is = let a : placements with_it ≡ placements (with_base s units) = ap placements stock_is in let b : placements (with_base s units) ≡ placements s + 0 = placements_new s (base units 0) None in let d : counts.placements ≡ placements s = kept.placements in omega arith

  pub base_fault_is : base_fault s units ≡ new_limit (length ks + 1) (length units) counts_with 0
  base_fault_is =
      ap (λ x. first_some (stock_limits x)) (sym stock_is)
      ∙ limits_new ks opened (base units 0) None refl kept.settled kept.within counts_with inserted_is versions_is placements_is
      ∙ ap (λ u. new_limit (length ks + 1) (length u) counts_with 0) (ap (text_at with_it (length ks)) (new_first ks opened (base units 0) None refl) ∙ text_first)

  pub base_kept : new_limit (length ks + 1) (length units) counts_with 0 ≡ None → IsKept (ks ++ opened ∷ []) (graph ++ [] ∷ []) counts_with
  base_kept none =
      new_kept ks opened (base units 0) None refl kept.settled tt tt tt tt graph (graph ++ [] ∷ []) counts counts_with kept refl units refl text_first refl
      (ap (λ x. first_some (stock_limits x)) stock_is ∙ base_fault_is ∙ none) inserted_is versions_is placements_is

  -- the base that is made
  pub opened_is : (x : Base) → x.chain.buffer ≡ length ks → x.chain.versions ≡ opening units → x.chain.changes ≡ [] → x.regions ≡ record { regions = []; given = 0 } → known (Held.Base x) ≡ opened
  opened_is x buffer_is versions_are changes_are regions_are =
      whole x.chain.buffer (length ks) x.chain.versions (opening units) x.chain.changes [] x.regions (record { regions = []; given = 0 }) buffer_is versions_are changes_are regions_are
    where
      whole : (a b : ℕ) (v w : List Version) (c d : List ChangeList) (p q : LiveRegions) → a ≡ b → v ≡ w → c ≡ d → p ≡ q →
          ◌≡◌ {A = Known} (record { number = a; buffer = record { records = map base_record v; changes = c; resolver = None; regions = p.regions; regions_given = p.given; turns = 0 }; texts = map (λ y. y.text) v })
          (record { number = b; buffer = record { records = map base_record w; changes = d; resolver = None; regions = q.regions; regions_given = q.given; turns = 0 }; texts = map (λ y. y.text) w })
      whole a b v w c d p q e f g h = rw (e, f, g, h) refl

-- ---- what is asked and answered, of buffers that are held

module _ (hs : List Held) (graph : List (List ℕ)) (counts : Counts) (kept : IsKept (map known hs) graph counts) where
  module _ (units : List ℕ) (m : ℕ) (cs : Counts) (m_is : m ≡ length hs) (cs_is : cs ≡ counts_with (map known hs) graph counts kept units) where
    same_limit : new_limit (m + 1) (length units) cs 0 ≡ new_limit (length (map known hs) + 1) (length units) (counts_with (map known hs) graph counts kept units) 0
    same_limit = ap (λ k. new_limit (k + 1) (length units) cs 0) (m_is ∙ sym (length-map hs known)) ∙ ap (λ k. new_limit (length (map known hs) + 1) (length units) k 0) cs_is

    pub base_judged : (o : Option Refusal) → o ≡ new_limit (m + 1) (length units) cs 0 → base_fault (stock hs) units ≡ o
    base_judged o is = base_fault_is (map known hs) graph counts kept units ∙ sym same_limit ∙ sym is

    pub base_put : new_limit (m + 1) (length units) cs 0 ≡ None → (graph' : List (List ℕ)) → graph' ≡ graph ++ [] ∷ [] → (x : Base) → x.chain.buffer ≡ length graph → x.chain.versions ≡ opening units → x.chain.changes ≡ [] → x.regions ≡ record { regions = []; given = 0 } → IsKept (map known hs ++ known (Held.Base x) ∷ []) graph' cs
    base_put none graph' graph_is x number_is versions_are changes_are regions_are =
        subst (λ k. IsKept (map known hs ++ k ∷ []) graph' cs) (sym (opened_is (map known hs) graph counts kept units x (number_is ∙ graph_len (map known hs) graph counts kept) versions_are changes_are regions_are))
        (subst (λ g. IsKept (map known hs ++ opened (map known hs) graph counts kept units ∷ []) g cs) (sym graph_is)
        (subst (λ k. IsKept (map known hs ++ opened (map known hs) graph counts kept units ∷ []) (graph ++ [] ∷ []) k) (sym cs_is)
        (base_kept (map known hs) graph counts kept units (sym same_limit ∙ none))))
