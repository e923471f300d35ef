-- Which faults come of a value alone.
use Rattle.snapshot.specs.declared.txn.TxnFault.{TxnFault}
use Rattle.snapshot.specs.declared.txn.TxnFault.TheVariants.{Missing, TooManyKeys, BadValue, NoMemory}

-- a fault that comes of the value alone: it is bad, or there was no memory for it
abbrev pub IsOfValue : TxnFault → Type 0
IsOfValue Missing = ⊥
IsOfValue TooManyKeys = ⊥
IsOfValue BadValue = Unit {0}
IsOfValue NoMemory = Unit {0}
