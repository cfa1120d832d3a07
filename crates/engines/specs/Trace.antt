-- Demand 3 over any engine: a trace of calls after an accepted setup, and what must hold at every point of it.
use Rattle.std.specs.Prelude.{◌≡◌, ◌↔◌, ◌≢◌, cond, List, ℕ, ◌+◌, ◌-◌, ◌≤◌, ◌<◌, eqb, length, get_or, set, take}
use Rattle.books.specs.Book.{null_slot, zero_entry, entry_at, AnyBook}
use Rattle.books.specs.Tabulate.{tabulate}
use Rattle.chains.specs.Count.{count}
use Rattle.shapes.specs.Ends.{contents}
use Rattle.shapes.specs.Shape.{Shape, chain_at, joined_up, lacks}
use Rattle.shapes.specs.Setup.{added_up}
use Rattle.shapes.specs.Moves.{Move, push_back, push_front, QuickMove, quick_push_back, quick_push_front, Call, move_of}
use Rattle.shapes.specs.Ledger.{Ledger, nothing_noted, noted_done}
use Rattle.engines.specs.Engine.{Engine}
use Rattle.engines.specs.Sound.{SoundBook}
use Rattle.engines.specs.Calls.{setup_call}
use Rattle.engines.specs.Moves.{State, left, number_of, quick_called, number_of_call, after_call}

-- what the other lists still lack of their shares: list l's own share left out
abbrev pub others_lack : AnyBook → Shape → ℕ → ℕ
others_lack b s l = lacks (set (take b.lists b.entries) l zero_entry) s.chains

-- a refused call adds nothing to the ledger
abbrev pub noted : (E : Engine) → State E → Call → Ledger → Ledger
noted E st c ledger = cond (eqb (number_of_call E st c) 0) (noted_done (move_of c) ledger) ledger

-- what is so of the number that each push of a value on list l gives: at either end, checked and quick
abbrev pub EachPush : (E : Engine) → State E → ℕ → ℕ → (ℕ → Type 0) → Type 0
EachPush E st l value Is =
    Is (number_of E st (push_back l value)) × Is (number_of E st (push_front l value))
    × Is (quick_called E st (quick_push_back l value)).number × Is (quick_called E st (quick_push_front l value)).number

module _ (E : Engine) (places lists : ℕ) (shares limits : List ℕ) where
  -- "Take an accepted setup, let only the other nine calls touch that pool, each with its slices and the newest book": any of them, one after the other, done or refused. 02 d): "any mixture of quick and checked calls"
  pub data Trace : State E → Ledger → Type 0 where
    begins : (links : E.Links) (values : List ℕ) → (setup_call E places links values lists shares limits).number ≡ 0
        → Trace (left (setup_call E places links values lists shares limits)) nothing_noted
    goes_on : {st : State E} {ledger : Ledger} → Trace st ledger → (c : Call) → Trace (after_call E st c) (noted E st c ledger)

  -- what demand 3 says at any point of a trace, sentence by sentence. `s` is the sound shape: the slots that each list holds, and the free ones
  pub record Demand3 (st : State E) (ledger : Ledger) (s : Shape) : Type 0 where
    pub sound : SoundBook E st.links st.values st.book s
    pub same_places : st.book.places ≡ places
    pub as_many : st.book.lists ≡ lists
    -- the book's shares and limits, by which 7 is decided, are the setup's
    pub granted : (l : ℕ) → l < lists → ((entry_at st.book.entries l).share ≡ get_or shares l 0) × ((entry_at st.book.entries l).limit ≡ get_or limits l 0)
    -- "A list holds its pushes done less its pops done since the setup or its last clear": as many, and these values in this order
    pub holds : (l : ℕ) → l < lists → length (chain_at s l) + ledger.pops l ≡ ledger.pushes l
    -- 02 c): and so says the book; the free count is N-1 less what all lists hold
    pub lengths : (l : ℕ) → l < lists → (entry_at st.book.entries l).length + ledger.pops l ≡ ledger.pushes l
    pub free_count : st.book.free.count + added_up (tabulate lists (λ l. ledger.pushes l - ledger.pops l)) + 1 ≡ E.size st.links
    pub sequence : (l : ℕ) → l < lists → contents st.values (chain_at s l) ≡ ledger.held l
    -- "slots from 1 on that no list holds are free"
    pub freed : (y : ℕ) → null_slot < y → y < E.size st.links → count y (joined_up s.chains) ≡ 0 → count y s.idle ≡ 1
    -- "After any calls, no list holds more than its limit"
    pub within : (l : ℕ) → l < lists → length (chain_at s l) ≤ get_or limits l 0
    -- "A list below its share is never refused a push"
    pub served : (l value : ℕ) → l < lists → length (chain_at s l) < get_or shares l 0 → EachPush E st l value (λ n. n ≡ 0)
    -- "A push on an existing list gets 6 exactly at its limit"
    pub six : (l value : ℕ) → l < lists → EachPush E st l value (λ n. n ≡ 6 ↔ (length (chain_at s l) ≡ get_or limits l 0))
    -- "it gets 7 exactly when it is under its limit, has its share, and the free slots are no more than what the other lists still lack of theirs"
    pub seven : (l value : ℕ) → l < lists
        → let Tight = (length (chain_at s l) < get_or limits l 0) × (get_or shares l 0 ≤ length (chain_at s l)) × (length s.idle ≤ others_lack st.book s l) in
        EachPush E st l value (λ n. n ≡ 7 ↔ Tight)
    -- no call of a trace is refused by 1, or by one of 9 to 16
    pub never : (m : Move) → (number_of E st m ≢ 1) × ((k : ℕ) → 9 ≤ k → k ≤ 16 → number_of E st m ≢ k)
    -- and no quick one by 1 or 17
    pub never_quick : (q : QuickMove) → ((quick_called E st q).number ≢ 1) × ((quick_called E st q).number ≢ 17)
