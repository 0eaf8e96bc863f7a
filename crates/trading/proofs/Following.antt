-- What each call keeps: rising numbers, few orders, and that each uncrossing is best; and the law. Assumes nothing.
use Rattle.std.proofs.Common.{◌≡◌, ℕ, ◌+◌, ◌<◌, ◌≤◌, Bool, true, false, cond, ◌&&◌, ltb, leb, List, [], ◌∷◌, length, Some, None, Ok, Err, Option, Result, sym, refl, subst, arith, length-append}
use Rattle.std.proofs.lemmas.Bool.{cond_both, ltb-true}
use Rattle.note.specs.declared.trades.Trade.{Trade}
use Rattle.session.specs.declared.refusals.SessionRefusal.{SessionRefusal}
use Rattle.session.specs.declared.refusals.SessionRefusal.TheVariants.{SessionRange, QuantityRange, Price, NoVolume, RegisterShort}
use Rattle.session.specs.declared.judgements.PriceRefusal.{PriceRefusal}
use Rattle.session.specs.Judgements.{price_judged}
use Rattle.session.specs.Openings.{ceiling}
use Rattle.book.specs.declared.orders.Side.{Side}
use Rattle.book.specs.declared.refusals.BookRefusal.{BookRefusal}
use Rattle.book.specs.Meaning.{Book, Order, rising, enter_answer, found, cut_answer}
use Rattle.book.proofs.Listing.{rising_cut, rising_push, rising_apart, length_cut}
use Rattle.rules.specs.Schedule.{offered, volume}
use Rattle.rules.specs.Literal.{equilibrium}
use Rattle.rules.specs.Prices.{Answered}
use Rattle.rules.specs.Trades.{trades_at}
use Rattle.rules.proofs.Choices.{equilibrium_words, no_rival}
use Rattle.rules.specs.Rivals.{total, Fills}
use Rattle.rules.proofs.Fitting.{trades_stand, trades_few}
use Rattle.rules.proofs.Shrinking.{trades_shrink}
use Rattle.rules.proofs.Turning.{trades_in_rank}
use Rattle.price.specs.Indications.{heading, told}
use Rattle.price.proofs.Outcomes.{best}
use Rattle.trading.specs.declared.calls.Call.{Call}
use Rattle.trading.specs.declared.calls.Call.TheVariants.{Entry, Cut, Withdrawal, Indication as AskIndication, Uncrossing}
use Rattle.trading.specs.declared.refusals.Refusal.{Refusal}
use Rattle.trading.specs.declared.refusals.Refusal.TheVariants.{Book as OfBook, Session as OfSession}
use Rattle.trading.specs.Replies.{Reply, refused, Outcome, refusal, price_limit, entry_limit, entry_by_book, entry_by_session, cut_by_book, withdrawal_of, indication_of, crossing_of, uncrossing_at, trades_of, outcome, replies, after_all, register_after}
use Rattle.trading.specs.Law.{Idle, Unrivalled, RightlyPriced, Short, FewTrades, Throughout, Conserved, Law}
use Rattle.trading.proofs.Balancing.{conserved}
use Rattle.trading.proofs.Knowing.{rising_trades}

-- what an entry can be refused with by the session
abbrev OfEntry : SessionRefusal → Type 0
OfEntry SessionRange = Unit {0}
OfEntry QuantityRange = Unit {0}
OfEntry (Price cause) = Unit {0}
OfEntry NoVolume = ⊥
OfEntry RegisterShort = ⊥

-- fills that total something are of some orders
orders_some : (m v : ℕ) (os : List Order) (ts : List Trade) → 0 < v → total ts ≡ v → Fills os m ts → 0 < length os
unfolding total
orders_some m v os [] more e f = absurd (omega arith)
orders_some m v [] (t ∷ ts) more e f = absurd f.buys.0.live
orders_some m v (o ∷ os) (t ∷ ts) more e f = omega arith

-- What an outcome keeps of a book whose numbers rise.
pub record Follows (tick scarcity places : ℕ) (m : Book) (o : Outcome) : Type 0 where
  pub rises : rising 0 o.after.orders o.after.last ≡ true
  -- a call brings at most one order or trade more
  pub few : length o.after.orders + length (trades_of o.reply) ≤ length m.orders + 1
  pub unrivalled_reply : Unrivalled tick scarcity m o.reply
  pub priced_reply : RightlyPriced tick scarcity m o.reply
  pub few_reply : FewTrades places m o.reply

module _ (tick scarcity places : ℕ) (m : Book) (rises : rising 0 m.orders m.last ≡ true) where
  stays : (why : Refusal) → Idle m tick scarcity why → Short places m why → Follows tick scarcity places m (record { reply = refused why; after = m })
  stays why h short = record { rises = rises; few = omega arith; unrivalled_reply = h; priced_reply = tt; few_reply = short }

  book_follows : (side : Side) (limit quantity : ℕ) (r : Result ℕ BookRefusal) → Follows tick scarcity places m (entry_by_book m side limit quantity r)
  book_follows side limit quantity (Err why) = stays (OfBook why) tt tt
  book_follows side limit quantity (Ok n) =
      let o : Order = record { number = m.last + 1; side = side; limit = limit; quantity = quantity } in
      record { rises = rising_push 0 m.orders m.last o rises (omega arith); few = omega (arith, length-append m.orders (o ∷ [])); unrivalled_reply = tt; priced_reply = tt; few_reply = tt }

  session_refuses : (why : SessionRefusal) → OfEntry why → Follows tick scarcity places m (refusal m (OfSession why))
  session_refuses SessionRange e = stays (OfSession SessionRange) tt tt
  session_refuses QuantityRange e = stays (OfSession QuantityRange) tt tt
  session_refuses (Price cause) e = stays (OfSession (Price cause)) tt tt
  session_refuses NoVolume e = absurd e
  session_refuses RegisterShort e = absurd e

  cut_follows : (n q : ℕ) (r : Result (Unit {0}) BookRefusal) → Follows tick scarcity places m (cut_by_book m n q r)
  cut_follows n q (Err why) = stays (OfBook why) tt tt
  cut_follows n q (Ok x) = record { rises = rising_cut 0 m.orders m.last n q rises; few = omega (arith, length_cut n q m.orders); unrivalled_reply = tt; priced_reply = tt; few_reply = tt }

  withdrawal_follows : (n : ℕ) (r : Option Order) → Follows tick scarcity places m (withdrawal_of m n r)
  withdrawal_follows n None = stays _ tt tt
  withdrawal_follows n (Some o) = record { rises = rising_cut 0 m.orders m.last n o.quantity rises; few = omega (arith, length_cut n o.quantity m.orders); unrivalled_reply = tt; priced_reply = tt; few_reply = tt }

  indication_follows : (r : Option ℕ) → Answered (offered m tick scarcity) r → Follows tick scarcity places m (indication_of m (told tick (offered m tick scarcity) r))
  indication_follows None h = stays (OfSession NoVolume) (no_rival m.orders (ceiling tick scarcity) h) tt
  indication_follows (Some p) h = record { rises = rises; few = omega arith; unrivalled_reply = tt; priced_reply = tt; few_reply = tt }

  crossing_follows : (p : ℕ) → Answered (offered m tick scarcity) (Some p) → Follows tick scarcity places m (crossing_of m places (heading tick (offered m tick scarcity) p) (trades_at (volume (offered m tick scarcity) p) m.orders))
  crossing_follows p c =
      let k = offered m tick scarcity in
      let v = volume k p in
      let apart = rising_apart 0 m.orders m.last rises in
      let traded = trades_stand p v m.orders apart (omega arith) (omega arith) in
      let chosen = best m tick scarcity p c in
      let fewer = trades_few v m.orders in
      let some : 0 < length m.orders = orders_some p v m.orders (trades_at v m.orders) chosen.kept.full.trades traded.sum traded.fills in
      cond_both (ltb places (length (trades_at v m.orders))) _ _ (Follows tick scarcity places m)
      (λ short. stays (OfSession RegisterShort) tt (omega (arith, ltb-true places _ short)))
      (λ _.
      record {
        rises = rising_trades m.orders m.last (trades_at v m.orders) rises;
        few = trades_shrink v m.orders apart;
        unrivalled_reply = record {
          ticks = p;
          price_is = refl;
          admissible = chosen.kept.full.admissible;
          fills = traded.fills;
          sum = traded.sum;
          in_rank = trades_in_rank p v m.orders apart (omega arith) (omega arith);
          unrivalled = chosen.unrivalled;
        };
        priced_reply = record { ticks = p; best = chosen; price_is = refl; volume_is = refl; imbalance_is = refl };
        few_reply = omega arith;
      })

  uncrossing_follows : (r : Option ℕ) → Answered (offered m tick scarcity) r → Follows tick scarcity places m (uncrossing_at tick places m (offered m tick scarcity) r)
  uncrossing_follows None h = stays (OfSession NoVolume) (no_rival m.orders (ceiling tick scarcity) h) tt
  uncrossing_follows (Some p) c = crossing_follows p c

  limit_follows : (side : Side) (quantity : ℕ) (r : Result ℕ SessionRefusal) → ((why : SessionRefusal) → r ≡ Err why → OfEntry why) → Follows tick scarcity places m (entry_by_session m side quantity r)
  limit_follows side quantity (Ok limit) ne = book_follows side limit quantity (enter_answer m)
  limit_follows side quantity (Err why) ne = session_refuses why (ne why refl)

price_entry : (r : Result ℕ PriceRefusal) (why : SessionRefusal) → price_limit r ≡ Err why → OfEntry why
price_entry (Ok limit) why e = let z : ◌≡◌ {A = ℕ} 0 1 = cc in absurd (omega arith)
price_entry (Err cause) why e = let same : Price cause ≡ why = cc in subst OfEntry same tt

limit_entry : (tick quantity price : ℕ) (why : SessionRefusal) → entry_limit tick quantity price ≡ Err why → OfEntry why
unfolding entry_limit
limit_entry tick quantity price why = by (leb 1 quantity && leb quantity 6858) where
  by : (b : Bool) → cond b (price_limit (price_judged tick price)) (Err QuantityRange) ≡ Err why → OfEntry why
  by true e = price_entry (price_judged tick price) why e
  by false e = let same : QuantityRange ≡ why = cc in subst OfEntry same tt

module _ (tick scarcity places : ℕ) where
  pub follows : (m : Book) → rising 0 m.orders m.last ≡ true → (c : Call) → Follows tick scarcity places m (outcome tick scarcity places m c)
  unfolding outcome
  follows m r (Entry side quantity price) = limit_follows tick scarcity places m r side quantity (entry_limit tick quantity price) (limit_entry tick quantity price)
  follows m r (Cut number quantity) = cut_follows tick scarcity places m r number quantity (cut_answer m number quantity)
  follows m r (Withdrawal number) = withdrawal_follows tick scarcity places m r number (found m number)
  follows m r AskIndication = indication_follows tick scarcity places m r (equilibrium (offered m tick scarcity)) (equilibrium_words (offered m tick scarcity))
  follows m r Uncrossing = uncrossing_follows tick scarcity places m r (equilibrium (offered m tick scarcity)) (equilibrium_words (offered m tick scarcity))

  pub unrivalled : (m : Book) → rising 0 m.orders m.last ≡ true → (cs : List Call) → Throughout (Unrivalled tick scarcity) tick scarcity places m cs (replies tick scarcity places m cs)
  unfolding replies
  unrivalled m r [] = tt
  unrivalled m r (c ∷ cs) = let f = follows m r c in (f.unrivalled_reply, unrivalled (outcome tick scarcity places m c).after f.rises cs)

  pub rightly_priced : (m : Book) → rising 0 m.orders m.last ≡ true → (cs : List Call) → Throughout (RightlyPriced tick scarcity) tick scarcity places m cs (replies tick scarcity places m cs)
  unfolding replies
  rightly_priced m r [] = tt
  rightly_priced m r (c ∷ cs) = let f = follows m r c in (f.priced_reply, rightly_priced (outcome tick scarcity places m c).after f.rises cs)

  pub few_trades : (m : Book) → rising 0 m.orders m.last ≡ true → (cs : List Call) → Throughout (FewTrades places) tick scarcity places m cs (replies tick scarcity places m cs)
  unfolding replies
  few_trades m r [] = tt
  few_trades m r (c ∷ cs) = let f = follows m r c in (f.few_reply, few_trades (outcome tick scarcity places m c).after f.rises cs)

-- The law, for replies, a book and a register that are those of the rules.
pub lawful : (tick scarcity : ℕ) (m : Book) (xs : List Trade) (cs : List Call) (rs : List Reply) (m' : Book) (ys : List Trade) → rising 0 m.orders m.last ≡ true → rs ≡ replies tick scarcity (length xs) m cs → m' ≡ after_all tick scarcity (length xs) m cs → ys ≡ register_after rs xs → Law tick scarcity m xs cs rs m' ys
lawful tick scarcity m xs cs rs m' ys r er em ey =
    record {
      replies_are = er;
      book_is = em;
      register_is = ey;
      unrivalled = subst (Throughout (Unrivalled tick scarcity) tick scarcity (length xs) m cs) (sym er) (unrivalled tick scarcity (length xs) m r cs);
      priced = subst (Throughout (RightlyPriced tick scarcity) tick scarcity (length xs) m cs) (sym er) (rightly_priced tick scarcity (length xs) m r cs);
      few = subst (Throughout (FewTrades (length xs)) tick scarcity (length xs) m cs) (sym er) (few_trades tick scarcity (length xs) m r cs);
      conserved = λ fresh.
          subst (λ x. Conserved cs x m'.orders) (sym er)
          (subst (λ (b : Book). Conserved cs (replies tick scarcity (length xs) m cs) b.orders) (sym em) (conserved tick scarcity (length xs) m cs fresh));
    }
