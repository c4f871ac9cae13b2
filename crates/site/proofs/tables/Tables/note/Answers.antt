use Rattle.std.proofs.Common.{sym, ap, ◌∙◌}
use Rattle.records.specs.declared.entry.Entry.{Entry}
use Rattle.records.specs.SlotStates.{deposit_in}
use Rattle.site.specs.Contents.{Contents, with_bag}
use Rattle.site.proofs.Deposited.{says_no_deposit}
use Rattle.site.proofs.Noted.{all_note, noted_of, noted_stands}
use Rattle.site.proofs.tables.Tables.note.Goals as goal

pub returns-in-Deposit : goal.returns-in-Deposit
returns-in-Deposit c =
    let new : Contents = record {
      deposits = c.note-in-Deposit.new.self.bags;
      spare = c.note-in-Deposit.new.self.room;
      depositing = c.note-in-Deposit.new.self.by_slot;
      acceptor = c.note.new.self;
      proposer = c.note-2.new.self;
      learner = c.note-3.new.self;
    } in
    let notes = all_note c.self.view_is new c.args.new c.requires
    (c.note-in-Deposit.ensures
    ∙ sym (ap (λ (e : Entry). with_bag c.self.inside.deposits.bags c.args.new.slot (deposit_in e))
    c.in-Deposit.is))
    c.note.result c.note-2.result c.note-3.result c.note.ensures.succeeds
    c.note-2.ensures.succeeds c.note-3.ensures.succeeds c.note.ensures.noted
    c.note-2.ensures.noted c.note-3.ensures.noted c.note-2.ensures.whose
    c.note-3.ensures.members in
    record {
      of = noted_of c.args.self.now new c.args.new notes;
      stands = noted_stands c.args.self.now new c.args.new notes;
    }

pub returns-in_default : goal.returns-in_default
returns-in_default c =
    let new : Contents = record {
      deposits = c.self.inside.deposits.bags;
      spare = c.self.inside.deposits.room;
      depositing = c.self.inside.deposits.by_slot;
      acceptor = c.note.new.self;
      proposer = c.note-2.new.self;
      learner = c.note-3.new.self;
    } in
    let notes = all_note c.self.view_is new c.args.new c.requires
    (sym (ap (with_bag c.self.inside.deposits.bags c.args.new.slot)
    (says_no_deposit c.args.new.body c.in_default.not-Deposit)))
    c.note.result c.note-2.result c.note-3.result c.note.ensures.succeeds
    c.note-2.ensures.succeeds c.note-3.ensures.succeeds c.note.ensures.noted
    c.note-2.ensures.noted c.note-3.ensures.noted c.note-2.ensures.whose
    c.note-3.ensures.members in
    record {
      of = noted_of c.args.self.now new c.args.new notes;
      stands = noted_stands c.args.self.now new c.args.new notes;
    }
