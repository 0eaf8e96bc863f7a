-- What trades come to, summed one by one. Assumes nothing.
use Rattle.std.proofs.Common.{◌≡◌, ℕ, ◌+◌, ◌*◌, ◌≤◌, List, [], ◌∷◌, length, All, mul-le-mul_right, mul-add, arith}
use Rattle.std.proofs.lemmas.List.Sums.{sum_by-cons, sum_by-le}
use Rattle.std.proofs.lemmas.List.Elements.{All-head, All-tail, All-weaker}
use Rattle.closing.specs.declared.inputs.PricedTrade.{PricedTrade}
use Rattle.closing.specs.declared.inputs.ClosingInputs.{ClosingInputs}
use Rattle.closing.specs.declared.judged.JudgedInputs.{JudgedInputs}
use Rattle.closing.specs.Criteria.{worth_of, contracts_of}
use Rattle.closing.proofs.Legal.{Sound, Legal, legal_of}

worth_cons : (trade : PricedTrade) (trades : List PricedTrade) → worth_of (trade ∷ trades) ≡ trade.price * trade.quantity + worth_of trades
worth_cons trade trades = sum_by-cons (λ t. t.price * t.quantity) trade trades

contracts_cons : (trade : PricedTrade) (trades : List PricedTrade) → contracts_of (trade ∷ trades) ≡ trade.quantity + contracts_of trades
contracts_cons trade trades = sum_by-cons (λ t. t.quantity) trade trades

-- at least as many contracts as trades
pub contracts_some : (tick : ℕ) (trades : List PricedTrade) → All (Sound tick) trades → length trades ≤ contracts_of trades
contracts_some tick [] sound = omega arith
contracts_some tick (trade ∷ trades) sound = omega (arith, contracts_cons trade trades, (All-head (Sound tick) trade trades sound).some, contracts_some tick trades (All-tail (Sound tick) trade trades sound))

-- the mean is at most what every price is at most, ..
pub worth_below : (high : ℕ) (trades : List PricedTrade) → All (λ trade. trade.price ≤ high) trades → worth_of trades ≤ high * contracts_of trades
worth_below high [] below = omega arith
worth_below high (trade ∷ trades) below =
    let P = λ (t : PricedTrade). t.price ≤ high in
    rw (worth_cons trade trades, contracts_cons trade trades)
    (omega (arith, mul-add high trade.quantity (contracts_of trades), mul-le-mul_right {m = trade.price} {n = high} trade.quantity (All-head P trade trades below), worth_below high trades (All-tail P trade trades below)))

-- .. and at least what every price is at least
pub worth_above : (low : ℕ) (trades : List PricedTrade) → All (λ trade. low ≤ trade.price) trades → low * contracts_of trades ≤ worth_of trades
worth_above low [] above = omega arith
worth_above low (trade ∷ trades) above =
    let P = λ (t : PricedTrade). low ≤ t.price in
    rw (worth_cons trade trades, contracts_cons trade trades)
    (omega (arith, mul-add low trade.quantity (contracts_of trades), mul-le-mul_right {m = low} {n = trade.price} trade.quantity (All-head P trade trades above), worth_above low trades (All-tail P trade trades above)))

-- so many contracts, and a mean of at most 10,000,000
pub record Fit (inputs : ClosingInputs) : Type 0 where
  pub some : length inputs.trades.now ≤ contracts_of inputs.trades.now
  pub few : contracts_of inputs.trades.now ≤ 7022592
  pub below : worth_of inputs.trades.now ≤ 10000000 * contracts_of inputs.trades.now

pub legal_fit : (tick : ℕ) (inputs : ClosingInputs) → Legal tick inputs → Fit inputs
legal_fit tick inputs legal =
    let trades = inputs.trades.now in
    record {
      some = contracts_some tick trades legal.trades;
      few = omega (arith, legal.few_trades, sum_by-le (λ t. t.quantity) 6858 trades (All-weaker (Sound tick) (λ trade. trade.quantity ≤ 6858) (λ trade sound. sound.few) trades legal.trades));
      below = worth_below 10000000 trades (All-weaker (Sound tick) (λ trade. trade.price ≤ 10000000) (λ trade sound. sound.on_tick.legal.1) trades legal.trades);
    }

pub trades_fit : (judged : JudgedInputs) → Fit judged.inputs
trades_fit judged = legal_fit judged.session.tick judged.inputs (legal_of judged)
