-- The reader's page for 02 b) and c): which of the rules 9 to 16 a pool with its book breaks first, with the list and the position, in the XOR list's own cells. It is a definition, not the check's algorithm. The law `broken_page_told` says that all other laws speak of it, and `broken_page_found` that the check finds just this. A pool that breaks no rule is `XorBook`. `stand_at`, `Reached` and `StandsIn` open crates/engines/specs/Positions.antt and speak of no engine.
use Rattle.std.specs.Prelude.{◌≡◌, ◌≢◌, ◌⊎◌, List, ℕ, ◌≤◌, ◌<◌, length, take}
use Rattle.std.specs.Int.Bits.{bit_xor}
use Rattle.books.specs.declared.Entry.{Entry}
use Rattle.books.specs.declared.Book.{Book}
use Rattle.books.specs.Book.{null_slot, wipe_word, entry_at, eight}
use Rattle.books.specs.Rules.{BookRules}
use Rattle.chains.specs.Count.{count}
use Rattle.chains.specs.Chain.{cell, first_or, last_or, LiveChain, IdleChain}
use Rattle.shapes.specs.Records.{Fault}
use Rattle.shapes.specs.Shape.{Shape, chain_at, every_slot, lacks}
use Rattle.shapes.specs.Faults.{fault}
use Rattle.engines.specs.Positions.{Stand, stand_at, Reached, StandsIn}

module _ (links values : List ℕ) (b : Book) where
  -- the entries of the L lists; N is the length of both slices
  abbrev es : List Entry
  es = take b.lists b.entries

  -- list l from its head, position by position: the slot there, and the slot before it, 0 standing for none. After a slot comes its link XOR the slot before it
  abbrev pub list_stand : ℕ → ℕ → Stand
  list_stand l = stand_at (λ before slot. bit_xor (cell links slot) before) (entry_at es l).head

  -- the free chain from the free head: after a slot comes its link
  abbrev pub free_stand : ℕ → Stand
  free_stand = stand_at (λ before slot. cell links slot) b.free.head

  -- position i of a chain is wrong: its slot is N or more, or was met earlier on this chain, or stands in a list below list l. 0 is no slot: the chain ends
  pub record WrongHere (chain : ℕ → Stand) (l i : ℕ) : Type 0 where
    pub reached : Reached chain i
    pub some : (chain i).slot ≢ null_slot
    pub wrong : (length links ≤ (chain i).slot) ⊎ ((j : ℕ) × (j < i) × ((chain j).slot ≡ (chain i).slot)) ⊎ ((k : ℕ) × (k < l) × StandsIn (list_stand k) (chain i).slot)

  -- list l ends after another slot than its tail. It ends at position i, which is its length then
  pub record WrongEnd (l i : ℕ) : Type 0 where
    pub reached : Reached (list_stand l) i
    pub ended : (list_stand l i).slot ≡ null_slot
    pub other : (list_stand l i).before ≢ (entry_at es l).tail

  abbrev pub WrongList : ℕ → ℕ → Type 0
  WrongList l i = WrongHere (list_stand l) l i ⊎ WrongEnd l i

  abbrev RulesKept : Type 0
  RulesKept = BookRules (length links) (eight b)

  -- slot 0 has link 0 and value 0
  abbrev NullIsZero : Type 0
  NullIsZero = (cell links null_slot ≡ 0) × (cell values null_slot ≡ 0)

  -- the lists and the free chain have the sequences `s`, as in `XorSound`, and no slot stands twice in all of them together
  pub record Sequences (s : Shape) : Type 0 where
    pub lists : length s.chains ≡ length es
    pub only : (y : ℕ) → 0 < count y (every_slot s) → (null_slot < y) × (y < length links)
    pub once : (y : ℕ) → count y (every_slot s) ≤ 1
    pub head : (l : ℕ) → l < length es → (entry_at es l).head ≡ first_or 0 (chain_at s l)
    pub tail : (l : ℕ) → l < length es → (entry_at es l).tail ≡ last_or 0 (chain_at s l)
    pub live : (l : ℕ) → l < length es → LiveChain links (chain_at s l)
    pub free_head : b.free.head ≡ first_or 0 s.idle
    pub idle : IdleChain links s.idle

  abbrev NoSlotMissing : Shape → Type 0
  NoSlotMissing s = (y : ℕ) → null_slot < y → y < length links → count y (every_slot s) ≡ 1

  abbrev FreeSlotsWiped : Shape → Type 0
  FreeSlotsWiped s = (y : ℕ) → 0 < count y s.idle → cell values y ≡ wipe_word

  -- no list is longer than its limit, and the free slots are at least what the lists lack
  abbrev LimitsAndShares : Shape → Type 0
  LimitsAndShares s = ((k : ℕ) → k < length es → length (chain_at s k) ≤ (entry_at es k).limit) × (lacks es s.chains ≤ length s.idle)

  -- the first rule that is broken, its list and its position, 0 where none applies
  pub data XorBroken (f : Fault) : Type 0 where
    -- 9: what 01 says of L, the shares and the limits does not hold; 10: slot 0 has a link or a value
    nine : f ≡ fault 9 0 0 → (RulesKept → ⊥) → XorBroken f
    ten : f ≡ fault 10 0 0 → RulesKept → (NullIsZero → ⊥) → XorBroken f
    -- 11: position i of list l is the first that is wrong, and no position of a list with a lower number is
    eleven : {l i : ℕ} → f ≡ fault 11 l i → RulesKept → NullIsZero → l < length es → WrongList l i → ((j : ℕ) → j < i → WrongList l j → ⊥)
        → ((k : ℕ) → k < l → (j : ℕ) → WrongList k j → ⊥) → XorBroken f
    -- 12: the same of the free chain, which has no tail, where no list is wrong
    twelve : {i : ℕ} → f ≡ fault 12 0 i → RulesKept → NullIsZero → ((l : ℕ) → l < length es → (j : ℕ) → WrongList l j → ⊥) → WrongHere free_stand (length es) i
        → ((j : ℕ) → j < i → WrongHere free_stand (length es) j → ⊥) → XorBroken f
    -- 13: the lowest slot that no chain has
    thirteen : {slot : ℕ} {s : Shape} → f ≡ fault 13 0 slot → RulesKept → NullIsZero → Sequences s → (null_slot < slot) × (slot < length links)
        → count slot (every_slot s) ≡ 0 → ((y : ℕ) → null_slot < y → y < slot → 0 < count y (every_slot s)) → XorBroken f
    -- 14: the lowest slot that is free and not wiped
    fourteen : {slot : ℕ} {s : Shape} → f ≡ fault 14 0 slot → RulesKept → NullIsZero → Sequences s → NoSlotMissing s → 0 < count slot s.idle
        → cell values slot ≢ wipe_word → ((y : ℕ) → 0 < count y s.idle → cell values y ≢ wipe_word → slot ≤ y) → XorBroken f
    -- 15: the lowest list that is longer than its limit; where none is, L, if the free slots are fewer than what the lists lack
    fifteen : {l : ℕ} {s : Shape} → f ≡ fault 15 l 0 → RulesKept → NullIsZero → Sequences s → NoSlotMissing s → FreeSlotsWiped s → l < length es
        → (entry_at es l).limit < length (chain_at s l) → ((k : ℕ) → k < l → length (chain_at s k) ≤ (entry_at es k).limit) → XorBroken f
    uncovered : {s : Shape} → f ≡ fault 15 b.lists 0 → RulesKept → NullIsZero → Sequences s → NoSlotMissing s → FreeSlotsWiped s
        → ((k : ℕ) → k < length es → length (chain_at s k) ≤ (entry_at es k).limit) → length s.idle < lacks es s.chains → XorBroken f
    -- 16: the lowest list whose stored length is not its sequence's; where none is, L, if the stored free count is not the free sequence's
    sixteen : {l : ℕ} {s : Shape} → f ≡ fault 16 l 0 → RulesKept → NullIsZero → Sequences s → NoSlotMissing s → FreeSlotsWiped s → LimitsAndShares s → l < length es
        → (entry_at es l).length ≢ length (chain_at s l) → ((k : ℕ) → k < l → (entry_at es k).length ≡ length (chain_at s k)) → XorBroken f
    miscounted : {s : Shape} → f ≡ fault 16 b.lists 0 → RulesKept → NullIsZero → Sequences s → NoSlotMissing s → FreeSlotsWiped s → LimitsAndShares s
        → ((k : ℕ) → k < length es → (entry_at es k).length ≡ length (chain_at s k)) → b.free.count ≢ length s.idle → XorBroken f
