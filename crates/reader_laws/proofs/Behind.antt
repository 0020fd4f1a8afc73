-- What is spelled behind a mnemonic that takes its form is read: the table has no mnemonic that would read it otherwise.
use Rattle.std.proofs.Common.{◌≡◌, ℕ, List, ap, sym, ◌∙◌, true, false}
use Rattle.stl_reader.specs.declared.forms.OperandForm.TheVariants as forms
use Rattle.stl_reader.specs.declared.words.OperandWord.{OperandWord}
use Rattle.stl_reader.specs.Forms.{accepts}
use Rattle.stl_lex.specs.declared.token.Token.{Token}
use Rattle.reader_laws.specs.Tokens.{IsRowWord}
use Rattle.reader_laws.specs.Spelled.{AddressesSpelledAreRead, DataAddressesSpelledAreRead, InstancesSpelledAreRead, SystemFunctionsSpelledAreRead}
use Rattle.reader_laws.proofs.Rows.{is_plain, row_is_plain}
use Rattle.reader_laws.proofs.Forms.{no_label, block_alone, system_calls}
use Rattle.reader_laws.proofs.Again.{address_read}
use Rattle.reader_laws.proofs.Calls.{instance_read, system_read}
use Rattle.reader_laws.proofs.Opened.{opened_read}

row_no_label : (text mnemonic : List ℕ) (row : OperandWord) (w : Token) → IsRowWord text row w → accepts mnemonic row.form ≡ true → accepts mnemonic forms.Label ≡ false
row_no_label text mnemonic row w word takes =
    no_label mnemonic row.form (λ s. let wrong : true ≡ false = sym (row_is_plain row word.listed) ∙ ap is_plain s in cc) takes

pub address_behind : AddressesSpelledAreRead
address_behind text temps mnemonic row bit value w ts rest word h takes =
    address_read text temps mnemonic row bit value w ts rest word h takes (row_no_label text mnemonic row w word takes) (λ is. block_alone mnemonic (ap (accepts mnemonic) (sym is) ∙ takes))

pub data_behind : DataAddressesSpelledAreRead
data_behind text temps mnemonic row number bit value d p w ts rest kind is known dot word area form h takes =
    opened_read text temps mnemonic row number bit value d p w ts rest kind is known dot word area form h takes (row_no_label text mnemonic row w word takes)

pub instance_behind : InstancesSpelledAreRead
instance_behind text temps mnemonic row number db w n c d m rest word form hn hc hd hm known takes =
    instance_read text temps mnemonic row number db w n c d m rest word form hn hc hd hm known takes (no_label mnemonic forms.FunctionBlockWithData (λ s. cc) takes)

pub system_behind : SystemFunctionsSpelledAreRead
system_behind text temps mnemonic row number w n rest word form h is takes =
    system_read text temps mnemonic row number w n rest word form h is (system_calls mnemonic takes) takes (no_label mnemonic forms.SystemFunction (λ s. cc) takes)
