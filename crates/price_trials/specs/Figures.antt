-- The worked figures, to be computed from the definitions: in sessions of a tick of 10. Assumes nothing.
use Rattle.std.specs.Prelude.{◌≡◌, ℕ, List, [], ◌∷◌, ℤ, pos, negsuc, Ok, Err, Result}
use Rattle.note.specs.Figures.{NoteFigures}
use Rattle.session.specs.declared.refusals.SessionRefusal.{SessionRefusal}
use Rattle.session.specs.declared.refusals.SessionRefusal.TheVariants.{NoVolume}
use Rattle.session.specs.Rounding.{nearest}
use Rattle.book.specs.declared.orders.Side.{Side}
use Rattle.book.specs.declared.orders.Side.TheVariants.{Buy, Sell}
use Rattle.book.specs.Meaning.{Order, Book}
use Rattle.price.specs.declared.indications.Indication.{Indication}
use Rattle.price.specs.Indications.{indication_answer}
use Rattle.note.specs.declared.trades.Trade.{Trade}
use Rattle.trading.specs.declared.calls.Call.TheVariants.{Uncrossing}
use Rattle.trading.specs.Replies.{uncrossed, outcome}
use Rattle.closing.specs.declared.inputs.PricedTrade.{PricedTrade}
use Rattle.closing.specs.Criteria.{worth_of, contracts_of}

-- an order by its number, side, quantity and limit in ticks
abbrev order : ℕ → Side → ℕ → ℕ → Order
order n s q limit = record { number = n; side = s; limit = limit; quantity = q }

-- one buy and one sell
abbrev pair : ℕ → ℕ → ℕ → ℕ → List Order
pair bought buy sold sell = order 1 Buy bought buy ∷ order 2 Sell sold sell ∷ []

-- a book of these orders
abbrev book : List Order → Book
book os = record { places = 256; last = 4; orders = os }

-- what an indication answers on it
abbrev answered : List Order → ℕ → Result Indication SessionRefusal
answered os scarcity = indication_answer (book os) 10 scarcity

abbrev shown : ℕ → ℕ → ℤ → Result Indication SessionRefusal
shown price volume imbalance = Ok (record { price = price; volume = volume; imbalance = imbalance })

-- a trade by its buy, its sell and its quantity
abbrev trade : ℕ → ℕ → ℕ → Trade
trade buy sell q = record { buy = buy; sell = sell; quantity = q }

-- trades by price and quantity
abbrev sold : List PricedTrade
sold = record { price = 10000; quantity = 1 } ∷ record { price = 10000; quantity = 1 } ∷ record { price = 10010; quantity = 2 } ∷ []

pub record AuctionFigures : Type 0 where
  pub empty : answered [] 30000 ≡ Err NoVolume
  pub touching : answered (pair 10 1200 10 1199) 30000 ≡ shown 12000 10 (pos 0)
  pub level : answered (pair 10 1050 10 1000) 30000 ≡ shown 10250 10 (pos 0)
  pub more_bought : answered (pair 15 1050 10 1000) 30000 ≡ shown 10500 10 (pos 5)
  pub more_sold : answered (pair 10 1050 15 1000) 30000 ≡ shown 10000 10 (negsuc 4)
  pub both_signs : answered (order 1 Buy 10 1001 ∷ order 2 Buy 5 1000 ∷ order 3 Sell 10 1000 ∷ order 4 Sell 5 1001 ∷ []) 30000 ≡ shown 10010 10 (negsuc 4)
  pub plateau : answered (order 1 Buy 10 1010 ∷ order 2 Buy 20 1005 ∷ order 3 Sell 10 1000 ∷ []) 30000 ≡ shown 10080 10 (pos 0)
  pub capped : answered (pair 15 1050 10 1000) 10234 ≡ shown 10230 10 (pos 5)
  pub priced_out : answered (pair 15 1050 10 1000) 9999 ≡ Err NoVolume
  -- 1 at 10,000, 1 at 10,000 and 2 at 10,010 have the mean 10,005, half a tick upward
  pub weighted : nearest 10 (worth_of sold) (contracts_of sold) ≡ 10010
  -- two buys of 6 and a sell of 8 at 10,000 trade so
  pub uncrossing : (outcome 10 30000 3 (book (order 1 Buy 6 1000 ∷ order 2 Buy 6 1000 ∷ order 3 Sell 8 1000 ∷ [])) Uncrossing).reply
      ≡ uncrossed (record { price = 10000; volume = 8; imbalance = pos 4 }) (trade 1 3 6 ∷ trade 2 3 2 ∷ [])
  pub note : NoteFigures
