-- A run that has carried out its first i calls. Assumes nothing.
use Rattle.std.proofs.Common.{◌≡◌, ℕ, zero, suc, ◌+◌, ◌-◌, ◌<◌, ◌≤◌, true, List, [], ◌∷◌, ◌++◌, length, get_or, take, drop, Ok, Err, Result, sym, refl, ap, ◌∙◌, subst, append_assoc, append-nil, add-one, arith, length-append, drop-cons, take-suc}
use lib.Seq.{drop-length, append_snoc, take-append-le, drop-append-le, drop-append_seam}
use Rattle.std.proofs.lemmas.List.{map-append, length-drop, length-take, take_all}
use Rattle.note.specs.declared.trades.Trade.{Trade}
use Rattle.book.specs.Meaning.{Book, rising}
use Rattle.price.specs.declared.indications.Indication.{Indication}
use Rattle.trading.specs.declared.calls.Call.{Call}
use Rattle.trading.specs.declared.answers.Answer.{Answer}
use Rattle.trading.specs.declared.answers.Answer.TheVariants.{Entered, Cut, Withdrawn, Indicated, Uncrossed}
use Rattle.trading.specs.declared.refusals.Refusal.{Refusal}
use Rattle.trading.specs.Replies.{Reply, uncrossed, refused, trades_of, outcome, replies, after_all, written, register_after, log_of, read, read_all}
use Rattle.trading.proofs.Following.{follows, lawful}
use Rattle.rules.specs.Rivals.{Each}
use Rattle.rules.proofs.Sums.{each_snoc}
use Rattle.engine.specs.Runs.{Within, Ran}

-- An answer reads the same in a longer log.

read_more : (log more : List Trade) (a : Result Answer Refusal) → Within (length log) a → read (log ++ more) a ≡ read log a
read_more log more (Ok (Entered n)) h = refl
read_more log more (Ok Cut) h = refl
read_more log more (Ok Withdrawn) h = refl
read_more log more (Ok (Indicated told)) h = refl
read_more log more (Ok (Uncrossed told first count)) h =
    let front : drop first (log ++ more) ≡ drop first log ++ more = drop-append-le first log more (omega arith) in
    let within : count ≤ length (drop first log) = simp length-drop (omega arith) in
    ap (uncrossed told) (ap (take count) front ∙ take-append-le count (drop first log) more within)
read_more log more (Err why) h = refl

pub read_all_more : (log more : List Trade) (answers : List (Result Answer Refusal)) → Each (Within (length log)) answers → read_all (log ++ more) answers ≡ read_all log answers
read_all_more log more [] h = refl
read_all_more log more (a ∷ answers) h = ap (λ r. r ∷ read_all (log ++ more) answers) (read_more log more a h.0) ∙ ap (λ rs. read log a ∷ rs) (read_all_more log more answers h.1)

within_more : (n k : ℕ) → n ≤ k → (a : Result Answer Refusal) → Within n a → Within k a
within_more n k le (Ok (Entered i)) h = tt
within_more n k le (Ok Cut) h = tt
within_more n k le (Ok Withdrawn) h = tt
within_more n k le (Ok (Indicated told)) h = tt
within_more n k le (Ok (Uncrossed told first count)) h = omega arith
within_more n k le (Err why) h = tt

all_within_more : (n k : ℕ) → n ≤ k → (answers : List (Result Answer Refusal)) → Each (Within n) answers → Each (Within k) answers
all_within_more n k le [] h = tt
all_within_more n k le (a ∷ answers) h = (within_more n k le a h.0, all_within_more n k le answers h.1)

-- what an uncrossing adds to the log is read back
pub read_added : (log ts : List Trade) (told : Indication) (count : ℕ) → count ≡ length ts → read (log ++ ts) (Ok (Uncrossed told (length log) count)) ≡ uncrossed told ts
read_added log ts told count e = ap (uncrossed told) (ap (take count) (drop-append_seam log ts) ∙ ap (λ n. take n ts) e ∙ take_all (length ts) ts (omega arith))

-- The answers so far, the log, the book and the register go on to what the whole run comes to.
pub record Going (tick scarcity places : ℕ) (m₀ : Book) (xs₀ : List Trade) (cs : List Call) (answers : List (Result Answer Refusal)) (log : List Trade) (m : Book) (xs : List Trade) (i : ℕ) : Type 0 where
  pub within : i ≤ length cs
  pub rises : rising 0 m.orders m.last ≡ true
  pub replied : read_all log answers ++ replies tick scarcity places m (drop i cs) ≡ replies tick scarcity places m₀ cs
  pub ends : after_all tick scarcity places m (drop i cs) ≡ after_all tick scarcity places m₀ cs
  pub register : register_after (replies tick scarcity places m (drop i cs)) xs ≡ register_after (replies tick scarcity places m₀ cs) xs₀
  pub logged : log ++ log_of (replies tick scarcity places m (drop i cs)) ≡ log_of (replies tick scarcity places m₀ cs)
  pub placed : Each (Within (length log)) answers
  pub few : length log + length m.orders ≤ length m₀.orders + i

pub going_starts : (tick scarcity places : ℕ) (m : Book) (xs : List Trade) (cs : List Call) → rising 0 m.orders m.last ≡ true → Going tick scarcity places m xs cs [] [] m xs 0
going_starts tick scarcity places m xs cs r =
    record { within = omega arith; rises = r; replied = refl; ends = refl; register = refl; logged = refl; placed = tt; few = omega arith }

dropped : (cs : List Call) (i : ℕ) (c : Call) → i < length cs → c ≡ get_or cs i c → drop i cs ≡ c ∷ drop (i + 1) cs
dropped cs i c lt is = let d = drop-cons cs i c lt in let one : i + 1 ≡ suc i = omega arith in cc

module _ (tick scarcity places : ℕ) (m₀ : Book) (xs₀ : List Trade) (cs : List Call) where
  going_at : (answers : List (Result Answer Refusal)) (log : List Trade) (m : Book) (xs : List Trade) (i : ℕ) (c : Call) (a : Result Answer Refusal)
      → i < length cs → c ≡ get_or cs i c → Going tick scarcity places m₀ xs₀ cs answers log m xs i
      → read (log ++ trades_of (outcome tick scarcity places m c).reply) a ≡ (outcome tick scarcity places m c).reply
      → Within (length (log ++ trades_of (outcome tick scarcity places m c).reply)) a
      → Going tick scarcity places m₀ xs₀ cs (answers ++ a ∷ []) (log ++ trades_of (outcome tick scarcity places m c).reply) (outcome tick scarcity places m c).after (written (trades_of (outcome tick scarcity places m c).reply) xs) (i + 1)
  unfolding replies after_all register_after log_of
  going_at answers log m xs i c a lt is h reads inside =
      let o = outcome tick scarcity places m c in
      let ts = trades_of o.reply in
      let us = drop (i + 1) cs in
      let rest = replies tick scarcity places o.after us in
      let d = dropped cs i c lt is in
      let f = follows tick scarcity places m h.rises c in
      let longer = length-append log ts in
      let so_far : read_all (log ++ ts) (answers ++ a ∷ []) ≡ read_all log answers ++ o.reply ∷ [] =
      map-append (read (log ++ ts)) answers (a ∷ []) ∙ ap (λ rs. rs ++ read (log ++ ts) a ∷ []) (read_all_more log ts answers h.placed) ∙ ap (λ r. read_all log answers ++ r ∷ []) reads in
      record {
        within = omega arith;
        rises = f.rises;
        replied = ap (λ rs. rs ++ rest) so_far ∙ append_snoc (read_all log answers) o.reply rest ∙ subst (λ ds. read_all log answers ++ replies tick scarcity places m ds ≡ replies tick scarcity places m₀ cs) d h.replied;
        ends = subst (λ ds. after_all tick scarcity places m ds ≡ after_all tick scarcity places m₀ cs) d h.ends;
        register = subst (λ ds. register_after (replies tick scarcity places m ds) xs ≡ register_after (replies tick scarcity places m₀ cs) xs₀) d h.register;
        logged = append_assoc log ts (log_of rest) ∙ subst (λ ds. log ++ log_of (replies tick scarcity places m ds) ≡ log_of (replies tick scarcity places m₀ cs)) d h.logged;
        placed = each_snoc (Within (length (log ++ ts))) answers a (all_within_more (length log) (length (log ++ ts)) (omega arith) answers h.placed) inside;
        few = omega (arith, f.few, h.few);
      }

  -- one call more, as it was carried out
  pub going_more : (answers answers' : List (Result Answer Refusal)) (log log' : List Trade) (m m' : Book) (xs xs' : List Trade) (i n : ℕ) (c : Call) (a : Result Answer Refusal)
      → i < length cs → c ≡ get_or cs i c → n ≡ length log'
      → read log' a ≡ (outcome tick scarcity places m c).reply → m' ≡ (outcome tick scarcity places m c).after
      → xs' ≡ written (trades_of (outcome tick scarcity places m c).reply) xs → log' ≡ log ++ trades_of (outcome tick scarcity places m c).reply
      → Within n a → answers' ≡ answers ++ a ∷ []
      → Going tick scarcity places m₀ xs₀ cs answers log m xs i → Going tick scarcity places m₀ xs₀ cs answers' log' m' xs' (i + 1)
  going_more answers answers' log log' m m' xs xs' i n c a lt is en reads em ex el inside ea h =
      let o = outcome tick scarcity places m c in
      let at = going_at answers log m xs i c a lt is h (subst (λ l. read l a ≡ o.reply) el reads) (subst (λ l. Within (length l) a) el (subst (λ k. Within k a) en inside)) in
      let one = subst (λ l. Going tick scarcity places m₀ xs₀ cs (answers ++ a ∷ []) l o.after (written (trades_of o.reply) xs) (i + 1)) (sym el) at in
      let two = subst (λ b. Going tick scarcity places m₀ xs₀ cs (answers ++ a ∷ []) log' b (written (trades_of o.reply) xs) (i + 1)) (sym em) one in
      let three = subst (λ r. Going tick scarcity places m₀ xs₀ cs (answers ++ a ∷ []) log' m' r (i + 1)) (sym ex) two in
      subst (λ l. Going tick scarcity places m₀ xs₀ cs l log' m' xs' (i + 1)) (sym ea) three

getD_same : (cs : List Call) (i : ℕ) (d e : Call) → i < length cs → get_or cs i d ≡ get_or cs i e
getD_same [] i d e lt = absurd (omega arith)
getD_same (c ∷ cs) zero d e lt = refl
getD_same (c ∷ cs) (suc i) d e lt = getD_same cs i d e (omega arith)

-- the same of the call at place i, with a register of the same length
pub going_next : (tick scarcity places j : ℕ) (m₀ : Book) (xs₀ : List Trade) (cs : List Call) (answers answers' : List (Result Answer Refusal)) (log log' : List Trade) (m m' : Book) (xs xs' : List Trade) (i n : ℕ) (d : Call) (a : Result Answer Refusal)
    → j ≡ places → i < length cs → n ≡ length log'
    → read log' a ≡ (outcome tick scarcity j m (get_or cs i d)).reply → m' ≡ (outcome tick scarcity j m (get_or cs i d)).after
    → xs' ≡ written (trades_of (outcome tick scarcity j m (get_or cs i d)).reply) xs → log' ≡ log ++ trades_of (outcome tick scarcity j m (get_or cs i d)).reply
    → Within n a → answers' ≡ answers ++ a ∷ []
    → Going tick scarcity places m₀ xs₀ cs answers log m xs i → Going tick scarcity places m₀ xs₀ cs answers' log' m' xs' (i + 1)
going_next tick scarcity places j m₀ xs₀ cs answers answers' log log' m m' xs xs' i n d a e lt en reads em ex el inside ea h =
    let c = get_or cs i d in
    going_more tick scarcity places m₀ xs₀ cs answers answers' log log' m m' xs xs' i n c a lt (getD_same cs i d c lt) en
    (subst (λ k. read log' a ≡ (outcome tick scarcity k m c).reply) e reads)
    (subst (λ k. m' ≡ (outcome tick scarcity k m c).after) e em)
    (subst (λ k. xs' ≡ written (trades_of (outcome tick scarcity k m c).reply) xs) e ex)
    (subst (λ k. log' ≡ log ++ trades_of (outcome tick scarcity k m c).reply) e el)
    inside ea h

-- all calls are carried out
pub going_ends : (tick scarcity : ℕ) (m₀ : Book) (xs₀ : List Trade) (cs : List Call) (answers : List (Result Answer Refusal)) (log : List Trade) (m : Book) (xs : List Trade) (i : ℕ) → rising 0 m₀.orders m₀.last ≡ true → length cs ≤ i → Going tick scarcity (length xs₀) m₀ xs₀ cs answers log m xs i → Ran tick scarcity m₀ xs₀ cs answers log m xs
unfolding replies after_all register_after log_of
going_ends tick scarcity m₀ xs₀ cs answers log m xs i r le h =
    let k = length xs₀ in
    let all : i ≡ length cs = omega (arith, h.within) in
    let none : drop i cs ≡ [] = ap (λ j. drop j cs) all ∙ drop-length cs in
    let replied : read_all log answers ≡ replies tick scarcity k m₀ cs = sym (append-nil (read_all log answers)) ∙ subst (λ ds. read_all log answers ++ replies tick scarcity k m ds ≡ replies tick scarcity k m₀ cs) none h.replied in
    let ends = subst (λ ds. after_all tick scarcity k m ds ≡ after_all tick scarcity k m₀ cs) none h.ends in
    let register = subst (λ ds. register_after (replies tick scarcity k m ds) xs ≡ register_after (replies tick scarcity k m₀ cs) xs₀) none h.register in
    let logged = sym (append-nil log) ∙ subst (λ ds. log ++ log_of (replies tick scarcity k m ds) ≡ log_of (replies tick scarcity k m₀ cs)) none h.logged in
    record {
      law = lawful tick scarcity m₀ xs₀ cs (read_all log answers) m xs r replied ends (register ∙ ap (λ rs. register_after rs xs₀) (sym replied));
      logged = logged ∙ ap log_of (sym replied);
      placed = h.placed;
    }

-- one trade more in the log
pub added_more : (log₀ log log' ts : List Trade) (i : ℕ) (d : Trade) → i < length ts → log ≡ log₀ ++ take i ts → log' ≡ log ++ get_or ts i d ∷ [] → log' ≡ log₀ ++ take (i + 1) ts
added_more log₀ log log' ts i d lt e f =
    f ∙ ap (λ l. l ++ get_or ts i d ∷ []) e ∙ append_assoc log₀ (take i ts) (get_or ts i d ∷ []) ∙ ap (λ l. log₀ ++ l) (sym (take-suc ts i d lt)) ∙ ap (λ k. log₀ ++ take k ts) (sym (add-one i))

-- What an uncrossing that was done adds: so many trades, read back from the log.
pub record Added (log log' ts : List Trade) (told : Indication) (first count : ℕ) : Type 0 where
  pub reads : uncrossed told (take count (drop first log')) ≡ uncrossed told ts
  pub logged : log' ≡ log ++ ts
  pub inside : first + count ≤ length log'

pub added : (log log' xs : List Trade) (told : Indication) (first count : ℕ) → first ≡ length log → count ≤ length xs → log' ≡ log ++ take (count - 0) xs → Added log log' (take count xs) told first count
added log log' xs told first count ef within e =
    let same : count - 0 ≡ count = omega arith in
    let ts = take count xs in
    let el : log' ≡ log ++ ts = e ∙ ap (λ k. log ++ take k xs) same in
    let long : length ts ≡ count = simp length-take (omega arith) in
    record {
      reads = ap (λ l. uncrossed told (take count (drop first l))) el ∙ ap (λ k. uncrossed told (take count (drop k (log ++ ts)))) ef ∙ read_added log ts told count (sym long);
      logged = el;
      inside = let l = ap length el ∙ length-append log ts in omega arith;
    }

pub nothing_added : (log : List Trade) (why : Refusal) (r : Reply) → refused why ≡ r → log ≡ log ++ trades_of r
nothing_added log why r e = sym (append-nil log) ∙ ap (λ x. log ++ trades_of x) e
