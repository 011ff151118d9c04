-- Debug addresses, from the values that the code has for them.
use Rattle.std.specs.Prelude.{List, map}
use Rattle.mufom_text.specs.declared.addresses.Role.{Role as HeldRole}
use Rattle.mufom_text.specs.declared.addresses.Role.TheVariants as roles
use Rattle.mufom_text.specs.declared.addresses.DebugAddress.{DebugAddress}
use Rattle.mufom_text.specs.Image.{Address, Role, begin_of, end_of, value_of}

-- what the address is the address of
abbrev pub role_seen : HeldRole → Role
role_seen (roles.Begin kind name) = begin_of kind name.now
role_seen (roles.End kind name) = end_of kind name.now
role_seen (roles.Value name) = value_of name.now

abbrev pub address_seen : DebugAddress → Address
address_seen a = (a.address, role_seen a.role)

abbrev pub all_seen : List DebugAddress → List Address
all_seen addresses = map address_seen addresses
