use Rattle.pie_lock.proofs.lock.RuledLock.put.Given as goal

-- the entries that this put appends
abbrev pub ghosts-free : goal.ghosts-free
ghosts-free g a = record { added = a.added.now.value }
