-- How a format's texts are read: item by item, and each means a file, or has a fault.
use Rattle.std.specs.Prelude.{◌≡◌, ℕ, ◌⊎◌, List, [], ◌∷◌}

-- items lead from one place to another, one after another, where it is told how one leads
pub data LeadTo {Item Place : Type 0} (Leads : Item → Place → Place → Type 0)
    : List Item → Place → Place → Type 0 where
  nothing_left : {place : Place} → LeadTo Leads [] place place
  one_more : {item : Item} → {items : List Item} → {from next to : Place} → Leads item from next
      → LeadTo Leads items next to → LeadTo Leads (item ∷ items) from to

-- A text means at most one file, has at most one fault, and never both.
pub record HasOneReading {File Fault : Type 0} (MeansFile : File → Type 0)
    (HasFault : Fault → Type 0) : Type 0 where
  pub one_meaning : (file other : File) → MeansFile file → MeansFile other → file ≡ other
  pub one_fault : (fault other : Fault) → HasFault fault → HasFault other → fault ≡ other
  pub never_both : (file : File) (fault : Fault) → MeansFile file → HasFault fault → ⊥

abbrev pub OneReading : {File Fault : Type 0} → (List ℕ → File → Type 0)
    → (List ℕ → Fault → Type 0) → Type 0
OneReading MeansFile HasFault = (text : List ℕ) → HasOneReading (MeansFile text) (HasFault text)

-- each text means a file, or has a fault
abbrev pub SomeReading : {File Fault : Type 0} → (List ℕ → File → Type 0)
    → (List ℕ → Fault → Type 0) → Type 0
SomeReading {File} {Fault} MeansFile HasFault =
    (text : List ℕ)
    → ((file : File) × MeansFile text file) ⊎ ((fault : Fault) × HasFault text fault)
