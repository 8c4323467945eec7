-- Requests one after another: each is a step, or fails and changes nothing.
use Rattle.std.specs.Prelude.{◌≡◌, ℕ, ◌≤◌, List, [], ◌∷◌, ◌⊎◌}
use Rattle.counts.specs.Counts.{Rose}
use Rattle.rule_core.specs.Books.{Book}
use Rattle.desk_core.specs.declared.refusal.Refusal.TheVariants.{KeeperFault, OutOfMemory}
use Rattle.desk_core.specs.declared.reply.Reply.{Reply}
use Rattle.desk_core.specs.declared.reply.Reply.TheVariants.{Refused}
use Rattle.desk_core.specs.State.{State}
use Rattle.desk_core.specs.Steps.{Request, step}

-- a request that fails: the keeper met a fault, which its count shows, or there is no memory
abbrev pub Fails : Reply → ℕ → ℕ → Type 0
Fails reply before now = ((reply ≡ Refused KeeperFault) × Rose before now) ⊎ (reply ≡ Refused OutOfMemory)

-- a request is answered by the machine's step, or it fails and the state stays
abbrev pub Answers : Book → State → Request → Reply → State → ℕ → ℕ → Type 0
Answers book old request reply new before now = (step book old request ≡ (new, reply)) ⊎ ((new ≡ old) × Fails reply before now)

-- requests are answered one after another, as the keeper's count of faults goes from one number to another
abbrev pub Runs : Book → State → List Request → List Reply → State → ℕ → ℕ → Type 0
Runs book old [] [] new from to = (new ≡ old) × (from ≤ to)
Runs book old (request ∷ requests) (reply ∷ replies) new from to =
    (mid : State) × (before : ℕ) × (now : ℕ) × (from ≤ before) × (before ≤ now) × Answers book old request reply mid before now
    × Runs book mid requests replies new now to
Runs book old [] (reply ∷ replies) new from to = ⊥
Runs book old (request ∷ requests) [] new from to = ⊥
