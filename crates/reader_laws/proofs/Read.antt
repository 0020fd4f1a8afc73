-- What is spelled as an operand is read as that operand.
use Rattle.reader_laws.specs.Operands.{by_address, by_data_block, by_instance, by_system, by_sign, by_label, by_number, by_literal, by_name, by_element}
use Rattle.reader_laws.specs.Spelled.{OperandsSpelledAreRead}
use Rattle.reader_laws.proofs.Calls.{label_read, literal_read}
use Rattle.reader_laws.proofs.Compared.{comparison_read}
use Rattle.reader_laws.proofs.Behind.{address_behind, data_behind, instance_behind, system_behind}
use Rattle.reader_laws.proofs.Figures.{number_read}
use Rattle.reader_laws.proofs.Named.{name_read, element_read}

pub operand_read : OperandsSpelledAreRead
operand_read text temps mnemonic form o front rest l (by_address row bit value w ts word h) takes stops = address_behind text temps mnemonic row bit value w ts rest word h takes
operand_read text temps mnemonic form o front rest l (by_data_block row number bit value d p w ts kind is known dot word area memory h) takes stops =
    data_behind text temps mnemonic row number bit value d p w ts rest kind is known dot word area memory h takes
operand_read text temps mnemonic form o front rest l (by_instance row number db w n c d m word block hn hc hd hm known) takes stops =
    instance_behind text temps mnemonic row number db w n c d m rest word block hn hc hd hm known takes
operand_read text temps mnemonic form o front rest l (by_system row number w n word system h is) takes stops = system_behind text temps mnemonic row number w n rest word system h is takes
operand_read text temps mnemonic form o front rest l (by_sign row s z listed sign kind zero) takes stops = comparison_read text temps mnemonic row s z rest listed sign kind zero takes
operand_read text temps mnemonic form o front rest l (by_label name w kind is) takes stops = label_read text temps mnemonic name w rest kind is takes
operand_read text temps mnemonic form o front rest l (by_number minus n ts h range) takes stops = number_read text temps mnemonic minus n ts rest l h range takes stops
operand_read text temps mnemonic form o front rest l (by_literal c t kind is) takes stops = literal_read text temps mnemonic c t rest kind is takes
operand_read text temps mnemonic form o front rest l (by_name place f p t name single h) takes stops = name_read text temps mnemonic place f p t rest name single h takes stops
operand_read text temps mnemonic form o front rest l (by_element place minus n k f p t opening closing ts name opens integer element closes h) takes stops =
    element_read text temps mnemonic place minus n k f p t opening closing l ts rest name opens integer element closes h takes
