-- Inner handlers have the lower rank.
use Rattle.std.proofs.Common.{◌≡◌, ℕ, suc, ◌+◌, ◌<◌, ◌≤◌, Bool, true, false, eqb, ltb, List, [], ◌∷◌, ◌++◌, reverse, length, get_or, sym, refl, ap, ◌∙◌, arith, length-append}
use mathlib.Core.List.{reverse_aux}
use lib.ListN.{get_or-append}
use Rattle.std.proofs.lemmas.Bool.{ltb-true, ltb-false}
use Rattle.numbers.specs.declared.number.LineNo.{LineNo}
use Rattle.numbers.specs.declared.number.TaskNo.{TaskNo}
use Rattle.board.specs.Figure.{Nested}
use Rattle.board.specs.Plans.{Parts}
use Rattle.board.proofs.Counting.{nest_within}
use Rattle.kernel.specs.declared.call.Call.{Call}
use Rattle.kernel.specs.declared.call.Call.TheVariants.{Raise, Enter, Pend, Go, Signal, Block, Post, Leave, Mask, Unmask}
use Rattle.kernel.specs.States.{State}
use Rattle.kernel.specs.Rules.{Chooses, Ranks, gives_way, lines}
use Rattle.kernel.specs.Histories.{Answered, History, after}
use Rattle.kernel.proofs.Owing.{KeepsRanks}
use Rattle.kernel.specs.Afterwards.{InnerHandlersHaveLowerRank, but_last, handlers, nest, nest_more}
use Rattle.kernel.proofs.Cases.{Base, alone, under, top, below, shaped, Case, refused, raises, enters, pends, adds, requests, opens, waits, resumes, unreadies, yields, copies, wakes, clears, idles, chooses, notes, switches, switches_none, loads, returns_again, returns_back, handler_requests, signals, blocks, posts, leaves_again, leaves_back, masks, unmasks, Held, held, held_after}

abbrev none : LineNo
none = record { 0 = 0 }

abbrev pub backwards : List LineNo → List LineNo
backwards [] = []
backwards (i ∷ hs) = backwards hs ++ (i ∷ [])

but_last_push : (xs : List LineNo) (i : LineNo) → but_last (xs ++ (i ∷ [])) ≡ xs
but_last_push [] i = refl
but_last_push (x ∷ []) i = refl
but_last_push (x ∷ (y ∷ r)) i = ap (λ l. x ∷ l) (but_last_push (y ∷ r) i)

reverse_push : (xs : List LineNo) (i : LineNo) (acc : List LineNo) → reverse_aux (xs ++ (i ∷ [])) acc ≡ i ∷ reverse_aux xs acc
reverse_push [] i acc = refl
reverse_push (x ∷ xs) i acc = reverse_push xs i (x ∷ acc)

reverse_backwards : (hs : List LineNo) → reverse (backwards hs) ≡ hs
reverse_backwards [] = refl
reverse_backwards (i ∷ hs) = reverse_push (backwards hs) i [] ∙ ap (λ l. i ∷ l) (reverse_backwards hs)

get_or_last : (xs : List LineNo) (i : LineNo) → get_or (xs ++ (i ∷ [])) (length xs) none ≡ i
get_or_last [] i = refl
get_or_last (x ∷ xs) i = get_or_last xs i

module _ (rank : Ranks) where
  -- each line has a rank of at least lo
  abbrev pub AllFrom : ℕ → List LineNo → Type 0
  AllFrom lo [] = Unit {0}
  AllFrom lo (j ∷ hs) = (lo ≤ rank j) × AllFrom lo hs

  from_less : (lo lo' : ℕ) (hs : List LineNo) → lo ≤ lo' → AllFrom lo' hs → AllFrom lo hs
  from_less lo lo' [] h k = tt
  from_less lo lo' (j ∷ hs) h k = (omega (arith, k.0), from_less lo lo' hs h k.1)

  module _ (L : ℕ) where
    -- from the inmost outwards the ranks rise, and each is a line of the plan
    abbrev pub Rising : List LineNo → Type 0
    Rising [] = Unit {0}
    Rising (i ∷ hs) = (i.0 < L) × AllFrom (suc (rank i)) hs × Rising hs

    rising_nested : (hs : List LineNo) → Rising hs → Nested rank L hs
    rising_nested [] r = tt
    rising_nested (i ∷ []) r = r.0
    rising_nested (i ∷ (j ∷ hs)) r = (r.0, r.1.0, rising_nested (j ∷ hs) r.2)

    above_at : (i : LineNo) (hs : List LineNo) → AllFrom (suc (rank i)) hs → (j : ℕ) → j < length (backwards hs) → rank i < rank (get_or (backwards hs) j none)
    above_at i [] a j h = absurd (omega arith)
    above_at i (x ∷ hs) a j h = by_test (λ lt. above_at i hs a.1 j lt) (ltb j (length (backwards hs))) refl
      where
        by_test : (j < length (backwards hs) → rank i < rank (get_or (backwards hs) j none)) → (v : Bool) → ltb j (length (backwards hs)) ≡ v → rank i < rank (get_or (backwards hs ++ (x ∷ [])) j none)
        by_test ih true q = let lt : j < length (backwards hs) = ltb-true _ _ q in rw (get_or-append (backwards hs) (x ∷ []) none j lt) (ih lt)
        by_test ih false q =
            let ge : length (backwards hs) ≤ j = ltb-false _ _ q in
            let at : j ≡ length (backwards hs) = omega (arith, length-append (backwards hs) (x ∷ [])) in
            rw (at, get_or_last (backwards hs) x) a.0

    ordered_at : (hs : List LineNo) → Rising hs → (j k : ℕ) → j < k → k < length (backwards hs) → rank (get_or (backwards hs) k none) < rank (get_or (backwards hs) j none)
    ordered_at [] r j k h l = absurd (omega arith)
    ordered_at (i ∷ hs) r j k h l = by_test (ordered_at hs r.2 j k h) (ltb k (length (backwards hs))) refl
      where
        by_test : (k < length (backwards hs) → rank (get_or (backwards hs) k none) < rank (get_or (backwards hs) j none)) → (v : Bool) → ltb k (length (backwards hs)) ≡ v
            → rank (get_or (backwards hs ++ (i ∷ [])) k none) < rank (get_or (backwards hs ++ (i ∷ [])) j none)
        by_test ih true q =
            let lt : k < length (backwards hs) = ltb-true _ _ q in
            let lt' : j < length (backwards hs) = omega arith in
            rw (get_or-append (backwards hs) (i ∷ []) none k lt, get_or-append (backwards hs) (i ∷ []) none j lt') (ih lt)
        by_test ih false q =
            let ge : length (backwards hs) ≤ k = ltb-false _ _ q in
            let at : k ≡ length (backwards hs) = omega (arith, length-append (backwards hs) (i ∷ [])) in
            let lt' : j < length (backwards hs) = omega arith in
            rw (get_or-append (backwards hs) (i ∷ []) none j lt', at, get_or_last (backwards hs) i) (above_at i hs r.1 j lt')

pub record Nests (plan : Parts) (rank : Ranks) (hs : List LineNo) (past : List Answered) : Type 0 where
  pub same : nest past ≡ backwards hs
  pub rises : Rising rank (lines plan) hs

not_nested : (c : Call) (a : ℕ) (ns : List LineNo) → eqb a 0 ≡ false → nest_more c a ns ≡ ns
not_nested (Raise j) a ns e = refl
not_nested (Enter j) a ns e = rw e
not_nested Pend a ns e = refl
not_nested Go a ns e = refl
not_nested (Signal set) a ns e = refl
not_nested Block a ns e = refl
not_nested (Post j) a ns e = refl
not_nested Leave a ns e = rw e
not_nested (Mask j) a ns e = refl
not_nested (Unmask j) a ns e = refl

-- a line that the active routine gives way to is below all the handlers
pub inmost : (rank : Ranks) (L : ℕ) (i : LineNo) (hs : List LineNo) (b : Base) (c : TaskNo) → gives_way rank i (top hs b c) ≡ true → Rising rank L hs → AllFrom rank (suc (rank i)) hs
inmost rank L i [] b c w r = tt
inmost rank L i (j ∷ hs) b c w r = let lt : rank i < rank j = ltb-true _ _ w in (lt, from_less rank _ _ hs (omega arith) r.1)

handlers_are : (hs : List LineNo) (b : Base) (c : TaskNo) → handlers (top hs b c ∷ below hs b c) ≡ hs
handlers_are [] (alone q) c = refl
handlers_are [] (under true q) c = refl
handlers_are [] (under false q) c = refl
handlers_are (i ∷ hs) b c = ap (λ l. i ∷ l) (handlers_are hs b c)

depth : (hs : List LineNo) (b : Base) (c : TaskNo) → length (below hs b c) ≤ 1 + length hs
depth [] (alone q) c = omega arith
depth [] (under d q) c = omega arith
depth (i ∷ hs) b c = omega (arith, depth hs b c)

module _ (plan : Parts) (choose : Chooses) (rank : Ranks) where
  as_before : {c : Call} {a : ℕ} {hs : List LineNo} (past : List Answered) → nest_more c a (nest past) ≡ nest past → Nests plan rank hs past → Nests plan rank hs (record { call = c; answer = a } ∷ past)
  as_before past e k = record { same = e ∙ k.same; rises = k.rises }

  pub nests_keeps : {c : Call} {hs : List LineNo} {b : Base} {s : State} {hs' : List LineNo} {b' : Base} {s' : State} {a : ℕ} (past : List Answered)
      → Case plan choose rank hs b s c hs' b' s' a → Nests plan rank hs past → Nests plan rank hs' (record { call = c; answer = a } ∷ past)
  nests_keeps past (refused {c = c} {n = n} e f) k = as_before past (not_nested c n _ e) k
  nests_keeps past (raises h p) k = as_before past refl k
  nests_keeps past (enters {hs = hs} {b = b} {s = s} {i = i} h p w) k = record {
    same = ap (λ l. l ++ (i ∷ [])) k.same;
    rises = (h, inmost rank (lines plan) i hs b s.current w k.rises, k.rises);
  }
  nests_keeps past (pends _ _) k = as_before past refl k
  nests_keeps past (adds _) k = as_before past refl k
  nests_keeps past (requests _) k = as_before past refl k
  nests_keeps past (opens _) k = as_before past refl k
  nests_keeps past waits k = as_before past refl k
  nests_keeps past (resumes _ _) k = as_before past refl k
  nests_keeps past (unreadies _) k = as_before past refl k
  nests_keeps past (yields _) k = as_before past refl k
  nests_keeps past copies k = as_before past refl k
  nests_keeps past wakes k = as_before past refl k
  nests_keeps past clears k = as_before past refl k
  nests_keeps past idles k = as_before past refl k
  nests_keeps past (chooses _) k = as_before past refl k
  nests_keeps past notes k = as_before past refl k
  nests_keeps past (switches _) k = as_before past refl k
  nests_keeps past (switches_none _) k = as_before past refl k
  nests_keeps past loads k = as_before past refl k
  nests_keeps past (returns_again _ _) k = as_before past refl k
  nests_keeps past (returns_back _) k = as_before past refl k
  nests_keeps past (handler_requests _) k = as_before past refl k
  nests_keeps past (signals _ _) k = as_before past refl k
  nests_keeps past (blocks _) k = as_before past refl k
  nests_keeps past (posts _) k = as_before past refl k
  nests_keeps past (leaves_again {i = i} _ _ _) k = record { same = ap but_last k.same ∙ but_last_push [] i; rises = tt }
  nests_keeps past (leaves_back {i = i} {hs = hs} _ _) k = record { same = ap but_last k.same ∙ but_last_push (backwards hs) i; rises = k.rises.2 }
  nests_keeps past masks k = as_before past refl k
  nests_keeps past unmasks k = as_before past refl k

  nesting_from : (kept : KeepsRanks rank) (h : History) (hs : List LineNo) (b : Base) (s : State) → h.state ≡ shaped hs b s → Nests plan rank hs h.past → InnerHandlersHaveLowerRank plan rank h
  nesting_from kept h hs b s e k = record {
    nest_is_the_handlers = ap reverse k.same ∙ (reverse_backwards hs ∙ sym (ap (λ (n : State). handlers (n.active ∷ n.suspended)) e ∙ handlers_are hs b s.current));
    later_is_lower = rw k.same (ordered_at rank (lines plan) hs k.rises);
    suspended_within_figure = rw e (omega (arith, depth hs b s.current, nest_within rank kept.bound kept.bounded (lines plan) hs (rising_nested rank (lines plan) hs k.rises)));
  }

  abbrev I : List LineNo → Base → State → List Answered → Type 0
  I hs b s past = Nests plan rank hs past

  nesting_held : (kept : KeepsRanks rank) (h : History) → Held plan choose rank I (λ c hs b s past hs' b' s' a v k. nests_keeps past v k) h → InnerHandlersHaveLowerRank plan rank h
  nesting_held kept h (held hs b s e k) = nesting_from kept h hs b s e k

pub nesting_after : (plan : Parts) (choose : Chooses) (rank : Ranks) → KeepsRanks rank → (calls : List Call) → InnerHandlersHaveLowerRank plan rank (after plan choose rank calls)
nesting_after plan choose rank kept calls = nesting_held plan choose rank kept _ (held_after plan choose rank _ _ (record { same = refl; rises = tt }) calls)
