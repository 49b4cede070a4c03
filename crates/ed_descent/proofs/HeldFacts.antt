-- A buffer that is held, and what the definitions say of it.
use Rattle.std.proofs.Common.{◌≡◌, ℕ, zero, suc, ◌+◌, ◌-◌, ◌<◌, ◌≤◌, ◌^◌, Bool, true, false, List, [], ◌∷◌, length, map, if◌then◌else◌, Option, Some, None, refl, sym, ap, ◌∙◌, subst, arith}
use Rattle.std.specs.Prelude.{All, option_and_then, option_map, slice_get, slice_index_or, sum_by, unwrap_or}
use Rattle.std.proofs.lemmas.List.{length-map}
use Rattle.std.proofs.lemmas.List.Elements.{All-from_recursion}
use Rattle.ed_base.specs.declared.piece.Member.{Member}
use Rattle.ed_base.specs.declared.piece.Piece.{Piece}
use Rattle.ed_base.specs.Hooks.{CutRules, HookTable, named}
use Rattle.ed_layers.specs.Pieces.{arrived}
use Rattle.ed_layers.specs.Records.{base, is_carrier, members_len, members_of}
use Rattle.ed_layers.specs.Sending.{sending_fault, sent}
use Rattle.ed_pieces.specs.Arrivals.{AllWithin}
use Rattle.ed_resolve.specs.Faults.{EndsShort}
use Rattle.ed_sending.proofs.Lists.SortedParts.{Each, each_more}
use Rattle.ed_stock.specs.Landing.{resolver_of}
use Rattle.ed_stock.specs.Stock.{buffer, count, record_now, text_now}
use Rattle.ed_held.specs.declared.held.Held.{Held}
use Rattle.ed_held.specs.Seen.{known, last_of, stock}
use Rattle.ed_descent.specs.Sends.{CanPass, CanSend, passing_fault, sent_on}
use Rattle.ed_descent.proofs.CarrierFacts.{carrier_len, ends_short, sent_there}

pub count_held : (hs : List Held) → count (stock hs) ≡ length hs
count_held hs = length-map (map known hs) _ ∙ length-map hs known

buffer_at : (hs : List Held) (b : ℕ) (d : Held) → b < length hs → buffer (stock hs) b ≡ (known (slice_index_or hs b d)).buffer
buffer_at [] b d there = absurd (omega arith)
buffer_at (h ∷ hs) zero d there = refl
buffer_at (h ∷ hs) (suc b) d there = buffer_at hs b d (omega arith)

module _ (hs : List Held) (b : ℕ) (h : Held) (there : b < length hs) (at : h ≡ slice_index_or hs b h) where
  buffer_is : buffer (stock hs) b ≡ (known h).buffer
  buffer_is = buffer_at hs b h there ∙ ap (λ (x : Held). (known x).buffer) (sym at)

  record_is : record_now (stock hs) b ≡ last_of (known h).buffer
  record_is = ap (λ x. unwrap_or (slice_get x.records (length x.records - 1)) (base [] 0)) buffer_is

  resolver_is : (hooks : HookTable) → option_and_then (λ name. named name hooks.resolvers) (known h).buffer.resolver ≡ resolver_of hooks (stock hs) b
  resolver_is hooks = ap (λ x. option_and_then (λ name. named name hooks.resolvers) x.resolver) (sym buffer_is)

  -- a base
  module _ (bare : false ≡ is_carrier (last_of (known h).buffer)) (ps : List Piece) where
    kind : is_carrier (record_now (stock hs) b) ≡ false
    kind = ap is_carrier record_is ∙ sym bare

    pub base_fault : passing_fault (stock hs) b ps ≡ None
    base_fault = rw kind refl

    pub base_sent : (hooks : HookTable) → sent_on hooks (stock hs) b ps ≡ []
    base_sent hooks = rw kind refl

  -- a carrier
  module _ (can : CanSend hs) (carries : true ≡ is_carrier (last_of (known h).buffer)) (members : List Member) (are : members ≡ members_of (last_of (known h).buffer)) where
    members_are : members_of (record_now (stock hs) b) ≡ members
    members_are = ap members_of record_is ∙ sym are

    carrier_kind : is_carrier (record_now (stock hs) b) ≡ true
    carrier_kind = ap is_carrier record_is ∙ sym carries

    in_stock : b < count (stock hs)
    in_stock = subst (λ n. b < n) (sym (count_held hs)) there

    len_is : length (text_now (stock hs) b) ≡ members_len members
    len_is = carrier_len (stock hs) can.ready b in_stock carrier_kind ∙ ap members_len members_are

    pub few : length members ≤ 1024
    few = subst (λ ms. length ms ≤ 1024) members_are (can.few b in_stock)

    pub ends : All EndsShort members
    ends = subst (All EndsShort) members_are (ends_short (stock hs) can.ready b in_stock carrier_kind can.short)

    pub short : members_len members ≤ 2 ^ 22
    short = subst (λ n. n ≤ 2 ^ 22) len_is (can.short b in_stock)

    module _ (ps : List Piece) (pass : CanPass (stock hs) b ps) where
      pub within : AllWithin (members_len members) ps
      within = subst (λ n. AllWithin n ps) len_is pass.within

      pub put_in : sum_by (λ p. length p.text) ps ≤ 2 ^ 22
      put_in = pass.put_in carrier_kind

    module _ (ps : List Piece) where
      pub carrier_fault : sending_fault b members (arrived ps (members_len members)) ≡ passing_fault (stock hs) b ps
      carrier_fault = ap (λ ms. sending_fault b ms (arrived ps (members_len members))) (sym members_are) ∙ ap (λ n. sending_fault b (members_of (record_now (stock hs) b)) (arrived ps n)) (sym len_is) ∙ (rw carrier_kind refl)

      pub carrier_sent : (hooks : HookTable) (rules : Option CutRules) → rules ≡ option_and_then (λ name. named name hooks.resolvers) (known h).buffer.resolver → sent b members rules (arrived ps (members_len members)) ≡ sent_on hooks (stock hs) b ps
      carrier_sent hooks rules same =
          ap (λ r. sent b members r (arrived ps (members_len members))) (same ∙ resolver_is hooks)
          ∙ ap (λ ms. sent b ms (resolver_of hooks (stock hs) b) (arrived ps (members_len members))) (sym members_are)
          ∙ ap (λ n. sent b (members_of (record_now (stock hs) b)) (resolver_of hooks (stock hs) b) (arrived ps n)) (sym len_is)
          ∙ (rw carrier_kind refl)

-- the resolver that a name finds
pub found : {R N : Type 0} (rules_of : R → CutRules) (now : N → List ℕ) (read result : Option R) (o : Option N) (own : Option (List ℕ)) (n : N) (text : List ℕ) (names : List ℕ → Option CutRules) → read ≡ result → option_map rules_of result ≡ names text → text ≡ now n → o ≡ Some n → option_map now o ≡ own → option_map rules_of read ≡ option_and_then names own
found rules_of now read result o own n text names is rules same named_is own_is = ap (option_map rules_of) is ∙ rules ∙ ap names same ∙ ap (option_and_then names) (sym (ap (option_map now) named_is) ∙ own_is)

pub not_found : {R N : Type 0} (rules_of : R → CutRules) (now : N → List ℕ) (read : Option R) (o : Option N) (own : Option (List ℕ)) (names : List ℕ → Option CutRules) → read ≡ None → o ≡ None → option_map now o ≡ own → option_map rules_of read ≡ option_and_then names own
not_found rules_of now read o own names is none own_is = ap (option_map rules_of) is ∙ ap (option_and_then names) (sym (ap (option_map now) none) ∙ own_is)

-- what a buffer sends on goes to buffers that are there
pub sent_on_there : (hooks : HookTable) (hs : List Held) (b : ℕ) (ps : List Piece) → CanSend hs → b < length hs → All (λ p. p.0 < length hs) (sent_on hooks (stock hs) b ps)
sent_on_there hooks hs b ps can there = All-from_recursion (λ (p : ℕ × Piece). p.0 < length hs) (sent_on hooks (stock hs) b ps) (by (is_carrier (record_now (stock hs) b)) refl)
  where
    by : (z : Bool) → is_carrier (record_now (stock hs) b) ≡ z → Each (λ p. p.0 < length hs) (if z then sent b (members_of (record_now (stock hs) b)) (resolver_of hooks (stock hs) b) (arrived ps (length (text_now (stock hs) b))) else [])
    by false is = tt
    by true is = each_more (λ p. (p.0 < count (stock hs)) × (p.1.start + p.1.len ≤ length (text_now (stock hs) p.0))) (λ p. p.0 < length hs) (sent b (members_of (record_now (stock hs) b)) (resolver_of hooks (stock hs) b) (arrived ps (length (text_now (stock hs) b))))
        (λ p l. subst (λ n. p.0 < n) (count_held hs) l.0) (sent_there (stock hs) can.ready b (subst (λ n. b < n) (sym (count_held hs)) there) is hooks ps)
