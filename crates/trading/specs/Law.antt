-- The law over every list of calls: each uncrossing is best, and on each side what is entered is accounted for. Assumes nothing.
use Rattle.std.specs.Prelude.{◌≡◌, ℕ, ◌+◌, ◌-◌, ◌*◌, ◌<◌, cond, List, [], ◌∷◌, length, Some, None, Option, ◌==◌}
use Rattle.note.specs.declared.trades.Trade.{Trade}
use Rattle.session.specs.declared.refusals.SessionRefusal.{SessionRefusal}
use Rattle.session.specs.declared.refusals.SessionRefusal.TheVariants.{SessionRange, QuantityRange, Price, NoVolume, RegisterShort}
use Rattle.book.specs.declared.orders.Side.{Side}
use Rattle.book.specs.Meaning.{Order, Book}
use Rattle.rules.specs.Schedule.{Admissible, offered}
use Rattle.rules.specs.Rivals.{Each, Fills, InRank, NoRivalAbove, total, traded}
use Rattle.rules.specs.Trades.{counted, resting}
use Rattle.price.specs.declared.indications.Indication.{Indication}
use Rattle.price.specs.Indications.{Priced}
use Rattle.trading.specs.declared.calls.Call.{Call}
use Rattle.trading.specs.declared.calls.Call.TheVariants.{Entry, Cut, Withdrawal, Indication as AskIndication, Uncrossing}
use Rattle.trading.specs.declared.refusals.Refusal.{Refusal}
use Rattle.trading.specs.declared.refusals.Refusal.TheVariants.{Book as OfBook, Session as OfSession}
use Rattle.trading.specs.Replies.{Reply, entered, was_cut, withdrawn, indicated, uncrossed, refused, outcome, replies, after_all, register_after, trades_of}

-- Uncrossings.

-- An accepted uncrossing of the book b: its trades are fills at its price, which is admissible, and total its volume, each side
-- filled in rank; no rival's fills total more.
pub record Filled (b : Book) (tick scarcity : ℕ) (told : Indication) (ts : List Trade) : Type 0 where
  pub ticks : ℕ
  pub price_is : told.price ≡ ticks * tick
  pub admissible : Admissible (offered b tick scarcity) ticks
  pub fills : Fills b.orders ticks ts
  pub sum : total ts ≡ told.volume
  pub in_rank : (s : Side) → InRank s b.orders ts
  pub unrivalled : NoRivalAbove b.orders (offered b tick scarcity) told.volume

-- one that is refused because nothing trades: every rival's fills total 0
abbrev pub IdleFor : Book → ℕ → ℕ → SessionRefusal → Type 0
IdleFor b tick scarcity SessionRange = Unit {0}
IdleFor b tick scarcity QuantityRange = Unit {0}
IdleFor b tick scarcity (Price cause) = Unit {0}
IdleFor b tick scarcity NoVolume = NoRivalAbove b.orders (offered b tick scarcity) 0
IdleFor b tick scarcity RegisterShort = Unit {0}

abbrev pub Idle : Book → ℕ → ℕ → Refusal → Type 0
Idle b tick scarcity (OfBook why) = Unit {0}
Idle b tick scarcity (OfSession why) = IdleFor b tick scarcity why

abbrev pub Unrivalled : ℕ → ℕ → Book → Reply → Type 0
Unrivalled tick scarcity b (entered n) = Unit {0}
Unrivalled tick scarcity b was_cut = Unit {0}
Unrivalled tick scarcity b withdrawn = Unit {0}
Unrivalled tick scarcity b (indicated told) = Unit {0}
Unrivalled tick scarcity b (uncrossed told ts) = Filled b tick scarcity told ts
Unrivalled tick scarcity b (refused why) = Idle b tick scarcity why

-- The price of an accepted uncrossing is that of the rule: of the admissible prices of its volume none has a smaller imbalance, and
-- the tie rule gives it and no other.
abbrev pub RightlyPriced : ℕ → ℕ → Book → Reply → Type 0
RightlyPriced tick scarcity b (entered n) = Unit {0}
RightlyPriced tick scarcity b was_cut = Unit {0}
RightlyPriced tick scarcity b withdrawn = Unit {0}
RightlyPriced tick scarcity b (indicated told) = Unit {0}
RightlyPriced tick scarcity b (uncrossed told ts) = Priced b tick scarcity told
RightlyPriced tick scarcity b (refused why) = Unit {0}

-- An uncrossing makes fewer trades than there are live orders, and its register is short only if it has not even so many places.
abbrev pub ShortFor : ℕ → Book → SessionRefusal → Type 0
ShortFor places b SessionRange = Unit {0}
ShortFor places b QuantityRange = Unit {0}
ShortFor places b (Price cause) = Unit {0}
ShortFor places b NoVolume = Unit {0}
ShortFor places b RegisterShort = places + 1 < length b.orders

abbrev pub Short : ℕ → Book → Refusal → Type 0
Short places b (OfBook why) = Unit {0}
Short places b (OfSession why) = ShortFor places b why

abbrev pub FewTrades : ℕ → Book → Reply → Type 0
FewTrades places b (entered n) = Unit {0}
FewTrades places b was_cut = Unit {0}
FewTrades places b withdrawn = Unit {0}
FewTrades places b (indicated told) = Unit {0}
FewTrades places b (uncrossed told ts) = length ts < length b.orders
FewTrades places b (refused why) = Short places b why

-- something is so of each reply, in the book just before its call
abbrev pub Throughout : (Book → Reply → Type 0) → ℕ → ℕ → ℕ → Book → List Call → List Reply → Type 0
Throughout P tick scarcity places m [] rs = Unit {0}
Throughout P tick scarcity places m (c ∷ cs) [] = Unit {0}
Throughout P tick scarcity places m (c ∷ cs) (r ∷ rs) = P m r × Throughout P tick scarcity places (outcome tick scarcity places m c).after cs rs

-- Contracts, counted from the calls and their replies alone.

-- an accepted entry: the number that it got, its side and its quantity
pub record Entered : Type 0 where
  pub number : ℕ
  pub side : Side
  pub quantity : ℕ

abbrev pub entry : Side → ℕ → Reply → Option Entered
entry side quantity (entered n) = Some (record { number = n; side = side; quantity = quantity })
entry side quantity was_cut = None
entry side quantity withdrawn = None
entry side quantity (indicated told) = None
entry side quantity (uncrossed told ts) = None
entry side quantity (refused why) = None

abbrev pub new_entry : Call → Reply → Option Entered
new_entry (Entry side quantity price) r = entry side quantity r
new_entry (Cut number quantity) r = None
new_entry (Withdrawal number) r = None
new_entry AskIndication r = None
new_entry Uncrossing r = None

-- the entry that answered a number
abbrev pub first_of : Option Entered → ℕ → Option Entered → Option Entered
first_of None k later = later
first_of (Some e) k later = cond (e.number == k) (Some e) later

unfoldable pub entry_of : List Call → List Reply → ℕ → Option Entered
entry_of [] rs k = None
entry_of (c ∷ cs) [] k = None
entry_of (c ∷ cs) (r ∷ rs) k = first_of (new_entry c r) k (entry_of cs rs k)

-- what an accepted cut takes, and an accepted withdrawal: q if the reply says so
abbrev pub if_cut : Reply → ℕ → ℕ
if_cut (entered n) q = 0
if_cut was_cut q = q
if_cut withdrawn q = 0
if_cut (indicated told) q = 0
if_cut (uncrossed told ts) q = 0
if_cut (refused why) q = 0

abbrev pub if_withdrawn : Reply → ℕ → ℕ
if_withdrawn (entered n) q = 0
if_withdrawn was_cut q = 0
if_withdrawn withdrawn q = q
if_withdrawn (indicated told) q = 0
if_withdrawn (uncrossed told ts) q = 0
if_withdrawn (refused why) q = 0

-- a quantity of an entry, as far as it counts for a side; and what is left of an entry of which u was taken
abbrev pub of_entry : Side → Option Entered → ℕ → ℕ
of_entry s None q = 0
of_entry s (Some e) q = counted s e.side q

abbrev pub rest_of : Side → Option Entered → ℕ → ℕ
rest_of s None u = 0
rest_of s (Some e) u = counted s e.side (e.quantity - u)

-- What one call, so answered, adds for a side: entered each entry's quantity; cut each cut's, on the side of the entry that answered
-- its number; traded each trade; withdrawn the order's entry less its earlier cuts and trades, which are u.

abbrev pub entered_by : Side → Call → Reply → ℕ
entered_by s c r = rest_of s (new_entry c r) 0

abbrev pub cut_by : Side → (ℕ → Option Entered) → Call → Reply → ℕ
cut_by s f (Entry side quantity price) r = 0
cut_by s f (Cut number quantity) r = if_cut r (of_entry s (f number) quantity)
cut_by s f (Withdrawal number) r = 0
cut_by s f AskIndication r = 0
cut_by s f Uncrossing r = 0

abbrev pub traded_by : Call → Reply → ℕ
traded_by (Entry side quantity price) r = 0
traded_by (Cut number quantity) r = 0
traded_by (Withdrawal number) r = 0
traded_by AskIndication r = 0
traded_by Uncrossing r = total (trades_of r)

abbrev pub withdrawn_by : Side → (ℕ → Option Entered) → (ℕ → ℕ) → Call → Reply → ℕ
withdrawn_by s f u (Entry side quantity price) r = 0
withdrawn_by s f u (Cut number quantity) r = 0
withdrawn_by s f u (Withdrawal number) r = if_withdrawn r (rest_of s (f number) (u number))
withdrawn_by s f u AskIndication r = 0
withdrawn_by s f u Uncrossing r = 0

-- what one call takes from the order k by a cut or by trades
abbrev pub taken_by : Call → Reply → ℕ → ℕ
taken_by (Entry side quantity price) r k = 0
taken_by (Cut number quantity) r k = if_cut r (cond (number == k) quantity 0)
taken_by (Withdrawal number) r k = 0
taken_by AskIndication r k = 0
taken_by Uncrossing r k = traded (trades_of r) k

-- Sums over all calls.

unfoldable pub sum_of : (Call → Reply → ℕ) → List Call → List Reply → ℕ
sum_of w [] rs = 0
sum_of w (c ∷ cs) [] = 0
sum_of w (c ∷ cs) (r ∷ rs) = w c r + sum_of w cs rs

unfoldable pub withdrawn_sum : Side → (ℕ → Option Entered) → (ℕ → ℕ) → List Call → List Reply → ℕ
withdrawn_sum s f u [] rs = 0
withdrawn_sum s f u (c ∷ cs) [] = 0
withdrawn_sum s f u (c ∷ cs) (r ∷ rs) = withdrawn_by s f u c r + withdrawn_sum s f (λ k. u k + taken_by c r k) cs rs

abbrev pub entered_total : Side → List Call → List Reply → ℕ
entered_total s cs rs = sum_of (entered_by s) cs rs

abbrev pub cut_total : Side → List Call → List Reply → ℕ
cut_total s cs rs = sum_of (cut_by s (entry_of cs rs)) cs rs

abbrev pub withdrawn_total : Side → List Call → List Reply → ℕ
withdrawn_total s cs rs = withdrawn_sum s (entry_of cs rs) (λ k. 0) cs rs

abbrev pub traded_total : List Call → List Reply → ℕ
traded_total cs rs = sum_of traded_by cs rs

abbrev pub taken_total : List Call → List Reply → ℕ → ℕ
taken_total cs rs k = sum_of (λ c r. taken_by c r k) cs rs

-- Of the live orders after the calls: each is its entry less its cuts and trades; and on each side, contracts entered are those cut,
-- withdrawn, traded and still resting.
pub record Conserved (cs : List Call) (rs : List Reply) (os : List Order) : Type 0 where
  pub live : Each (λ o. entry_of cs rs o.number ≡ Some (record { number = o.number; side = o.side; quantity = o.quantity + taken_total cs rs o.number })) os
  pub sums : (s : Side) → entered_total s cs rs ≡ cut_total s cs rs + withdrawn_total s cs rs + traded_total cs rs + resting s os

-- a book that gave out no number and holds no order
pub record Fresh (m : Book) : Type 0 where
  pub unused : m.last ≡ 0
  pub empty : m.orders ≡ []

-- The law. The calls cs on the book m, with a register, in a session of a tick and a scarcity price, were replied rs and left the book
-- m' and the register register'.
pub record Law (tick scarcity : ℕ) (m : Book) (register : List Trade) (cs : List Call) (rs : List Reply) (m' : Book) (register' : List Trade) : Type 0 where
  -- replies, book and register are those of the rules, worked out from the book at the start and the calls
  pub replies_are : rs ≡ replies tick scarcity (length register) m cs
  pub book_is : m' ≡ after_all tick scarcity (length register) m cs
  pub register_is : register' ≡ register_after rs register
  -- each uncrossing trades as much as any rival could
  pub unrivalled : Throughout (Unrivalled tick scarcity) tick scarcity (length register) m cs rs
  -- at the price of the rule
  pub priced : Throughout (RightlyPriced tick scarcity) tick scarcity (length register) m cs rs
  -- in fewer trades than there are live orders
  pub few : Throughout (FewTrades (length register)) tick scarcity (length register) m cs rs
  -- from a fresh book, contracts entered are cut, withdrawn, traded or still resting
  pub conserved : Fresh m → Conserved cs rs m'.orders
