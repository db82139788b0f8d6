-- JSON as it may stand in HTML.
use Rattle.std.specs.Prelude.{◌≡◌, ◌≢◌, ◌<◌, ◌^◌, ℕ, List, ⊤}
use Rattle.std.specs.List.{AllByRecursion}
use Rattle.serde_json.specs.Data.{Data, Items, Members, number, unsigned, negative, float, array, object, item, no_items, member, no_members}
use Rattle.serde_json.specs.Read.{read}
use Rattle.serde_json.specs.Written.{compact_text}
use Rattle.trace_json.specs.Pages.{within_html}

-- no `<`, by which every tag and every comment begins, stands in it
abbrev pub HasNoTag : Type 0
HasNoTag = (json : List ℕ) → AllByRecursion (λ octet. octet ≢ 60) (within_html json)

-- each number of the value is a natural one of 64 bits
abbrev mutual
  pub HasNaturals : Data → Type 0
  HasNaturals (number (unsigned n)) = n < 2 ^ 64
  HasNaturals (number (negative z)) = ⊥
  HasNaturals (number (float x)) = ⊥
  HasNaturals (array items) = ItemsHaveNaturals items
  HasNaturals (object members) = MembersHaveNaturals members
  HasNaturals _ = ⊤

  pub ItemsHaveNaturals : Items → Type 0
  ItemsHaveNaturals no_items = ⊤
  ItemsHaveNaturals (item d items) = HasNaturals d × ItemsHaveNaturals items

  pub MembersHaveNaturals : Members → Type 0
  MembersHaveNaturals no_members = ⊤
  MembersHaveNaturals (member key d members) = HasNaturals d × MembersHaveNaturals members

-- the text of such a value reads as it does outside of HTML
abbrev pub ReadsAlike : Type 0
ReadsAlike = (d : Data) → HasNaturals d → read (within_html (compact_text d)) ≡ read (compact_text d)
