-- The ledger of demand 3: each list's pushes and pops done since the setup or its last clear, and the values that it then holds.
use Rattle.std.specs.Prelude.{cond, List, [], ◌∷◌, ◌++◌, ℕ, suc, ◌-◌, eqb, length, take, drop}
use Rattle.shapes.specs.Moves.{Move, check, ask_length, push_back, push_front, pop_back, pop_front, read_forward, read_backward, clear}

-- "its pushes done" and "its pops done since the setup or its last clear", of each list: how many, and the values pushed less those popped, from the front
pub record Ledger : Type 0 where
  pub pushes : ℕ → ℕ
  pub pops : ℕ → ℕ
  pub held : ℕ → List ℕ

abbrev pub nothing_noted : Ledger
nothing_noted = record { pushes = λ l. 0; pops = λ l. 0; held = λ l. [] }

abbrev pub one_more : ℕ → (ℕ → ℕ) → ℕ → ℕ
one_more l f k = cond (eqb k l) (suc (f k)) (f k)

abbrev pub none_at : ℕ → (ℕ → ℕ) → ℕ → ℕ
none_at l f k = cond (eqb k l) 0 (f k)

-- another sequence for list l
abbrev pub held_at : ℕ → List ℕ → (ℕ → List ℕ) → ℕ → List ℕ
held_at l vs f k = cond (eqb k l) vs (f k)

-- all but the last, and all but the first
abbrev pub but_last : List ℕ → List ℕ
but_last vs = take (length vs - 1) vs

abbrev pub but_first : List ℕ → List ℕ
but_first vs = drop 1 vs

-- what a done call adds to the ledger
abbrev pub noted_done : Move → Ledger → Ledger
noted_done check ledger = ledger
noted_done (ask_length l) ledger = ledger
noted_done (push_back l value) ledger = record { pushes = one_more l ledger.pushes; pops = ledger.pops; held = held_at l (ledger.held l ++ value ∷ []) ledger.held }
noted_done (push_front l value) ledger = record { pushes = one_more l ledger.pushes; pops = ledger.pops; held = held_at l (value ∷ ledger.held l) ledger.held }
noted_done (pop_back l) ledger = record { pushes = ledger.pushes; pops = one_more l ledger.pops; held = held_at l (but_last (ledger.held l)) ledger.held }
noted_done (pop_front l) ledger = record { pushes = ledger.pushes; pops = one_more l ledger.pops; held = held_at l (but_first (ledger.held l)) ledger.held }
noted_done (read_forward l buffer at) ledger = ledger
noted_done (read_backward l buffer at) ledger = ledger
noted_done (clear l) ledger = record { pushes = none_at l ledger.pushes; pops = none_at l ledger.pops; held = held_at l [] ledger.held }

-- one push and one pop more of list l; every list holds the same
abbrev pub one_pair : ℕ → Ledger → Ledger
one_pair l ledger = record { pushes = one_more l ledger.pushes; pops = one_more l ledger.pops; held = ledger.held }
