-- Pieces on their way down: what stays while one carrier after another sends on.
use Rattle.std.proofs.Common.{◌≡◌, ◌≢◌, ℕ, ◌+◌, ◌<◌, ◌≤◌, Bool, true, false, List, [], ◌∷◌, ◌++◌, length, map, filter, reverse, if◌then◌else◌, Some, None, refl, sym, ap, ◌∙◌, subst, arith}
use Rattle.std.specs.Prelude.{fold, nat_eq, sum_by}
use Rattle.std.proofs.lemmas.Bool.{eq-eqb, eqb-true}
use Rattle.std.proofs.lemmas.List.{reverse-append}
use Rattle.std.proofs.lemmas.List.Sums.{sum_by-cons}
use Rattle.ed_base.specs.declared.edit.Change.{Change}
use Rattle.ed_base.specs.declared.piece.Piece.{Piece}
use Rattle.ed_base.specs.declared.refusal.Refusal.{Refusal}
use Rattle.ed_base.specs.ChangeList.{AreNormalFrom}
use Rattle.ed_base.specs.Hooks.{HookTable}
use Rattle.ed_base.specs.Numbers.{or_else}
use Rattle.ed_layers.specs.Records.{is_carrier, members_of}
use Rattle.ed_layers.specs.Sending.{sending_fault}
use Rattle.ed_risen.proofs.Lists.{each_among}
use Rattle.ed_risen.proofs.Order.{of_order}
use Rattle.ed_sending.proofs.Lists.SortedParts.{Each, each_append, each_more, filter_each}
use Rattle.ed_sending.proofs.Groups.SendingOrder.{down_once}
use Rattle.ed_stock.specs.Landing.{carriers_down, components_at, down_fault, down_fault_from, pieces_at, pieces_of_changes, sent_down, sent_from}
use Rattle.ed_stock.specs.Stock.{Stock, count, graph_order, record_now, text_now}
use Rattle.ed_descent.proofs.CarrierFacts.{as_many, sent_there}
use Rattle.ed_descent.proofs.UnitSums.{AreOnce, edits_sum, sums_append, units_at}
use Rattle.ed_descent.specs.Edits.{IsNormalEdit, pieces_of_edits, units_of_carriers}
use Rattle.ed_descent.specs.declared.edit.BufferEdit.{BufferEdit}
use Rattle.ed_sending.specs.Ready.{IsReady}

-- a piece lies inside the text of a buffer that is there
abbrev pub LiesIn : Stock → ℕ × Piece → Type 0
LiesIn s bp = (bp.0 < count s) × (bp.1.start + bp.1.len ≤ length (text_now s bp.0))

abbrev pub IsCarrierOf : Stock → ℕ → Type 0
IsCarrierOf s c = (c < count s) × (is_carrier (record_now s c) ≡ true)

-- the carriers of an order, from the last on
abbrev pub carriers_back : Stock → List ℕ → List ℕ
carriers_back s order = filter (λ b. is_carrier (record_now s b)) (reverse order)

-- These pieces are on their way, and these carriers have still to send on.
pub record Goes (hooks : HookTable) (s : Stock) (start : List (ℕ × Piece)) (most : ℕ) (pending : List (ℕ × Piece)) (cs : List ℕ) : Type 0 where
  pub same : fold (sent_from hooks s) pending cs ≡ sent_down hooks s start
  pub fault : down_fault_from hooks s pending cs ≡ down_fault hooks s start
  pub inside : Each (LiesIn s) pending
  pub carriers : Each (IsCarrierOf s) cs
  pub once : AreOnce cs
  pub units : sum_by (units_at pending) cs ≤ most
  pub based : (b : ℕ) → is_carrier (record_now s b) ≡ false → units_at pending b + sum_by (units_at pending) cs ≤ units_at start b + most

-- what lies inside, at one buffer
pub lies_at : (s : Stock) (pending : List (ℕ × Piece)) (b : ℕ) → Each (LiesIn s) pending → Each (λ p. p.start + p.len ≤ length (text_now s b)) (pieces_at pending b)
lies_at s [] b all = tt
lies_at s (bp ∷ bps) b all = either (nat_eq bp.0 b) refl (lies_at s bps b all.1)
  where
    either : (z : Bool) → nat_eq bp.0 b ≡ z → Each (λ p. p.start + p.len ≤ length (text_now s b)) (pieces_at bps b) → Each (λ p. p.start + p.len ≤ length (text_now s b)) (map (λ (q : ℕ × Piece). q.1) (if z then bp ∷ filter (λ q. nat_eq q.0 b) bps else filter (λ q. nat_eq q.0 b) bps))
    either true is rest = (subst (λ d. bp.1.start + bp.1.len ≤ length (text_now s d)) (eqb-true bp.0 b is) all.0.1, rest)
    either false is rest = rest

-- ---- one carrier sends on

module _ (hooks : HookTable) (s : Stock) (ready : IsReady s) (start : List (ℕ × Piece)) (most : ℕ) (pending : List (ℕ × Piece)) (c : ℕ) (cs : List ℕ) (goes : Goes hooks s start most pending (c ∷ cs)) where
  abbrev next : List (ℕ × Piece)
  next = sent_from hooks s pending c

  -- no more has arrived than the edits of carriers put in
  pub arrived_most : units_at pending c ≤ most
  arrived_most = omega (arith, goes.units, sum_by-cons (units_at pending) c cs)

  pub refused : (r : Refusal) → sending_fault c (members_of (record_now s c)) (components_at s pending c) ≡ Some r → down_fault hooks s start ≡ Some r
  refused r is = sym goes.fault ∙ ap (λ o. or_else o (down_fault_from hooks s next cs)) is

  module _ (none : sending_fault c (members_of (record_now s c)) (components_at s pending c) ≡ None) where
    sums : (ds : List ℕ) → AreOnce ds → sum_by (units_at next) ds ≤ sum_by (units_at pending) ds + units_at pending c
    sums ds once = subst (λ n. sum_by (units_at next) ds ≤ sum_by (units_at pending) ds + n) (as_many s ready c goes.carriers.0.0 goes.carriers.0.1 hooks (pieces_at pending c) (lies_at s pending c goes.inside) none) (sums_append pending _ ds once)

    aside : (b : ℕ) → is_carrier (record_now s b) ≡ false → (ds : List ℕ) → Each (IsCarrierOf s) ds → Each (λ d. d ≢ b) ds
    aside b bare ds all = each_more (IsCarrierOf s) (λ d. d ≢ b) ds (λ d h same. (let f : true ≡ false = sym h.1 ∙ ap (λ e. is_carrier (record_now s e)) same ∙ bare in cc)) all

    pub goes_on : Goes hooks s start most next cs
    goes_on = record {
      same = goes.same;
      fault = sym (ap (λ o. or_else o (down_fault_from hooks s next cs)) none) ∙ goes.fault;
      inside = each_append (LiesIn s) pending _ goes.inside (sent_there s ready c goes.carriers.0.0 goes.carriers.0.1 hooks (pieces_at pending c));
      carriers = goes.carriers.1;
      once = goes.once.1;
      units = omega (arith, goes.units, sums cs goes.once.1, sum_by-cons (units_at pending) c cs);
      based = λ b bare. omega (arith, goes.based b bare, sums (b ∷ cs) (aside b bare cs goes.carriers.1, goes.once.1), sum_by-cons (units_at pending) c cs, sum_by-cons (units_at next) b cs, sum_by-cons (units_at pending) b cs);
    }

-- ---- the start

reverse-cons : {X : Type 0} (x : X) (xs : List X) → reverse (x ∷ xs) ≡ reverse xs ++ (x ∷ [])
reverse-cons x xs = reverse-append (x ∷ []) xs

each_reverse : (P : ℕ → Type 0) (xs : List ℕ) → Each P xs → Each P (reverse xs)
each_reverse P [] a = tt
each_reverse P (x ∷ xs) a = subst (λ z. Each P z) (sym (reverse-cons x xs)) (each_append P (reverse xs) (x ∷ []) (each_reverse P xs a.1) (a.0, tt))

-- the carriers before the last of an order
pub back_carrier : (s : Stock) (xs : List ℕ) (c : ℕ) → is_carrier (record_now s c) ≡ true → carriers_back s (xs ++ c ∷ []) ≡ c ∷ carriers_back s xs
back_carrier s xs c is = ap (filter (λ b. is_carrier (record_now s b))) (reverse-append xs (c ∷ [])) ∙ (rw is refl)

pub back_base : (s : Stock) (xs : List ℕ) (c : ℕ) → is_carrier (record_now s c) ≡ false → carriers_back s (xs ++ c ∷ []) ≡ carriers_back s xs
back_base s xs c is = ap (filter (λ b. is_carrier (record_now s b))) (reverse-append xs (c ∷ [])) ∙ (rw is refl)

all_carriers : (s : Stock) → Each (IsCarrierOf s) (carriers_down s)
all_carriers s = filter_each (λ c. c < count s) (λ b. is_carrier (record_now s b)) (reverse (graph_order s)) (each_reverse (λ c. c < count s) (graph_order s) (each_among (λ c. c < count s) (graph_order s) (of_order s)))

none_same : (c : ℕ) (xs : List ℕ) → length (filter (λ d. nat_eq d c) xs) ≤ 0 → Each (λ d. d ≢ c) xs
none_same c [] none = tt
none_same c (x ∷ xs) none = either (nat_eq x c) refl none (none_same c xs)
  where
    either : (z : Bool) → nat_eq x c ≡ z → length (if z then x ∷ filter (λ d. nat_eq d c) xs else filter (λ d. nat_eq d c) xs) ≤ 0 → (length (filter (λ d. nat_eq d c) xs) ≤ 0 → Each (λ d. d ≢ c) xs) → Each (λ d. d ≢ c) (x ∷ xs)
    either true is few rest = absurd (omega arith)
    either false is few rest = ((λ same. (let f : true ≡ false = sym (eq-eqb x c same) ∙ is in cc)), rest few)

once_of : (P : ℕ → Type 0) (xs : List ℕ) → Each P xs → ((c : ℕ) → P c → length (filter (λ d. nat_eq d c) xs) ≤ 1) → AreOnce xs
once_of P [] all few = tt
once_of P (x ∷ xs) all few = (none_same x xs (first (nat_eq x x) (eq-eqb x x refl) (few x all.0)), once_of P xs all.1 (λ c p. rest c (nat_eq x c) (few c p)))
  where
    first : (z : Bool) → z ≡ true → length (if z then x ∷ filter (λ d. nat_eq d x) xs else filter (λ d. nat_eq d x) xs) ≤ 1 → length (filter (λ d. nat_eq d x) xs) ≤ 0
    first true is l = omega arith
    first false is l = absurd (let f : false ≡ true = is in cc)

    rest : (c : ℕ) (z : Bool) → length (if z then x ∷ filter (λ d. nat_eq d c) xs else filter (λ d. nat_eq d c) xs) ≤ 1 → length (filter (λ d. nat_eq d c) xs) ≤ 1
    rest c true l = omega arith
    rest c false l = l

down_each_once : (s : Stock) → AreOnce (carriers_down s)
down_each_once s = once_of (IsCarrierOf s) (carriers_down s) (all_carriers s) (λ c h. (let e : length (filter (λ d. nat_eq d c) (carriers_down s)) ≡ 1 = ap length (down_once s c h.0 h.1) in omega arith))

changes_lie : (s : Stock) (b : ℕ) → b < count s → (p n : ℕ) (cs : List Change) → AreNormalFrom p n cs → n ≡ length (text_now s b) → Each (LiesIn s) (pieces_of_changes b cs)
changes_lie s b there p n [] normal from = tt
changes_lie s b there p n (c ∷ cs) normal from = ((there, subst (λ m. c.start + c.old_len ≤ m) from normal.1), changes_lie s b there (c.start + c.old_len + 1) n cs normal.3 from)

edits_lie : (s : Stock) (edits : List BufferEdit) → Each (λ e. e.buffer < count s) edits → Each (λ e. e.changes.old_len ≡ length (text_now s e.buffer)) edits → Each IsNormalEdit edits → Each (LiesIn s) (pieces_of_edits edits)
edits_lie s [] there from normal = tt
edits_lie s (e ∷ es) there from normal = each_append (LiesIn s) (pieces_of_changes e.buffer e.changes.changes) (pieces_of_edits es) (changes_lie s e.buffer there.0 0 e.changes.old_len e.changes.changes normal.0.changes from.0) (edits_lie s es there.1 from.1 normal.1)

pub sets_out : (hooks : HookTable) (s : Stock) (edits : List BufferEdit) → Each (λ e. e.buffer < count s) edits → Each (λ e. e.changes.old_len ≡ length (text_now s e.buffer)) edits → Each IsNormalEdit edits → Goes hooks s (pieces_of_edits edits) (units_of_carriers s edits) (pieces_of_edits edits) (carriers_down s)
unfolding sent_down down_fault
sets_out hooks s edits there from normal =
    let sum : sum_by (units_at (pieces_of_edits edits)) (carriers_down s) ≤ units_of_carriers s edits =
    edits_sum s (carriers_down s) (down_each_once s) (each_more (IsCarrierOf s) (λ d. is_carrier (record_now s d) ≡ true) (carriers_down s) (λ d h. h.1) (all_carriers s)) edits in
    record {
      same = refl;
      fault = refl;
      inside = edits_lie s edits there from normal;
      carriers = all_carriers s;
      once = down_each_once s;
      units = sum;
      based = λ b bare. omega (arith, sum);
    }
